-- One number in the sets of a table, set by set, and the numbers one after another.
use Rattle.std.proofs.Common.{◌≡◌, ◌≢◌, ◌<◌, ◌≤◌, ◌||◌, ◌⊎◌, ◌+◌, ◌↔◌, ℕ, zero, suc, Bool, true, false, List, [], ◌∷◌, length, map, get_or, set, replicate, inl, inr, Some, slice_get, refl, sym, ap, ◌∙◌, subst, arith}
use Rattle.std.proofs.lemmas.Bool.{false≢true, cases_Bool, cases_eq, cases_lt}
use Rattle.std.proofs.lemmas.List.{get_or-set_same, get_or-set_other, get_or_past, get_or-replicate, length-map, length-replicate}
use Rattle.std.proofs.lemmas.Option.{slice_get-get_or, same_Some}
use Rattle.bit_rows.specs.Sets.{has}
use Rattle.bit_rows.specs.Tables.{Table, the_set, with_set, empty_table, Holds, IsSized}
use Rattle.bit_rows.proofs.SetLemmas.{has-empty, has_past, same_set}
use Rattle.bit_rows.proofs.TableLemmas.{the_set-with_set, other-with_set}
use Rattle.c_tree.specs.declared.program.Program.{Program}
use Rattle.dep_model.specs.declared.location.Location.{Location}
use Rattle.dep_model.specs.DoingEffects.{the_input}
use Rattle.dep_model.specs.LocationLists.{location_list}
use Rattle.dep_model.specs.ModRef.{is_outside}
use Rattle.rule_closure.specs.declared.closure.Rule.{Rule}
use Rattle.mod_ref.specs.Columns.{column, IsColumnJoined, IsSpread, IsSpreadTo, AreSpread}

or_false : (b : Bool) → (b || false) ≡ b
or_false true = refl
or_false false = refl

or_true : (b : Bool) → (b || true) ≡ true
or_true true = refl
or_true false = refl

-- ---- a column

mapped : (ss : List (List Bool)) (k f : ℕ) → has (map (λ (s : List Bool). has s k) ss) f ≡ has (get_or ss f []) k
mapped [] k f = refl
mapped (s ∷ ss) k zero = refl
mapped (s ∷ ss) k (suc f) = mapped ss k f

pub column_has : (t : Table) (k f : ℕ) → has (column t k) f ≡ has (the_set t f) k
column_has t k f = mapped t.sets k f

pub column_length : (t : Table) (k : ℕ) → length (column t k) ≡ length t.sets
column_length t k = length-map t.sets (λ (s : List Bool). has s k)

pub empty_holds : (n m f k : ℕ) → has (the_set (empty_table n m) f) k ≡ false
empty_holds n m f k = elim (cases_lt f n) [
  | inl low ↦ ap (λ s. has s k) (get_or-replicate n f (replicate m false) [] low) ∙ has-empty m k
  | inr high ↦ elim (cases_lt f (length (empty_table n m).sets)) [
    | inl there ↦ absurd (let long : length (empty_table n m).sets ≡ n = length-replicate n (replicate m false) in omega (arith, there, high, long))
    | inr past ↦ ap (λ s. has s k) (get_or_past (empty_table n m).sets f [] past)
  ]
]

-- ---- reading

-- the first f functions are read
pub record IsRead (own : Table) (k f : ℕ) (marks : List Bool) : Type 0 where
  pub size : length marks ≡ length own.sets
  pub done : (g : ℕ) → g < f → has marks g ≡ has (the_set own g) k
  pub to_come : (g : ℕ) → f ≤ g → has marks g ≡ false

pub read_none : (own : Table) (k n : ℕ) (marks : List Bool) → marks ≡ replicate n false → n ≡ length own.sets → IsRead own k 0 marks
read_none own k n marks is long = record {
  size = ap length is ∙ length-replicate n false ∙ long;
  done = λ g low. absurd (omega (arith, low));
  to_come = λ g high. ap (λ s. has s g) is ∙ has-empty n g;
}

pub read_turn : (own : Table) (k f : ℕ) (marks new : List Bool) → IsRead own k f marks → length new ≡ length marks
    → ((g : ℕ) → g ≢ f → has new g ≡ has marks g) → has new f ≡ (has marks f || has (the_set own f) k) → IsRead own k (f + 1) new
read_turn own k f marks new i size others here = record {
  size = size ∙ i.size;
  done = λ g low. elim (cases_eq g f) [
    | inl same ↦ ap (has new) same ∙ here ∙ ap (λ b. b || has (the_set own f) k) (i.to_come f (omega arith)) ∙ ap (λ h. has (the_set own h) k) (sym same)
    | inr apart ↦ others g apart ∙ i.done g (omega (arith, low, apart))
  ];
  to_come = λ g high. others g (λ same. omega (arith, high, same)) ∙ i.to_come g (omega (arith, high));
}

pub read_ends : (own : Table) (k f : ℕ) (marks : List Bool) → IsRead own k f marks → length own.sets ≤ f → marks ≡ column own k
read_ends own k f marks i ended =
    same_set marks (column own k) (i.size ∙ sym (column_length own k)) (λ g low. i.done g (let n = i.size in omega (arith, low, n, ended)) ∙ sym (column_has own k g))

-- ---- writing

module _ (t : Table) (f k : ℕ) (low : f < length t.sets) (wide : k < length (the_set t f)) where
  pub set_here : has (the_set (with_set t f (set (the_set t f) k true)) f) k ≡ true
  set_here = ap (λ s. has s k) (the_set-with_set t f (set (the_set t f) k true) low) ∙ get_or-set_same (the_set t f) k true false wide

  pub set_others : (g j : ℕ) → (g ≢ f) ⊎ (j ≢ k) → has (the_set (with_set t f (set (the_set t f) k true)) g) j ≡ has (the_set t g) j
  set_others g j apart = elim (cases_eq g f) [
    | inr other ↦ ap (λ s. has s j) (other-with_set t f g (set (the_set t f) k true) other)
    | inl same ↦ elim apart [
      | inl other ↦ absurd (other same)
      | inr off ↦
          ap (λ h. has (the_set (with_set t f (set (the_set t f) k true)) h) j) same
          ∙ ap (λ s. has s j) (the_set-with_set t f (set (the_set t f) k true) low)
          ∙ get_or-set_other (the_set t f) k j true false off
          ∙ ap (λ h. has (the_set t h) j) (sym same)
    ]
  ]

-- the rows of the first f functions are written
pub record IsWritten (marks : List Bool) (k f : ℕ) (old new : Table) : Type 0 where
  pub size : IsSized (length old.sets) old.bits new
  pub done : (g : ℕ) → g < f → has (the_set new g) k ≡ (has (the_set old g) k || has marks g)
  pub to_come : (g : ℕ) → f ≤ g → has (the_set new g) k ≡ has (the_set old g) k
  pub others : (g j : ℕ) → j ≢ k → has (the_set new g) j ≡ has (the_set old g) j

pub written_none : (marks : List Bool) (k : ℕ) (old : Table) → IsSized (length old.sets) old.bits old → IsWritten marks k 0 old old
written_none marks k old size = record { size = size; done = λ g low. absurd (omega (arith, low)); to_come = λ g high. refl; others = λ g j apart. refl }

pub written_turn : (marks : List Bool) (k f : ℕ) (old mid new : Table) → IsWritten marks k f old mid → IsSized (length mid.sets) mid.bits new
    → ((g j : ℕ) → (g ≢ f) ⊎ (j ≢ k) → has (the_set new g) j ≡ has (the_set mid g) j) → has (the_set new f) k ≡ (has (the_set mid f) k || has marks f) → IsWritten marks k (f + 1) old new
written_turn marks k f old mid new i size others here = record {
  size = subst (λ n. IsSized n old.bits new) i.size.rows_are (subst (λ n. IsSized (length mid.sets) n new) i.size.bits_are size);
  done = λ g low. elim (cases_eq g f) [
    | inl same ↦ ap (λ h. has (the_set new h) k) same ∙ here ∙ ap (λ b. b || has marks f) (i.to_come f (omega arith)) ∙ ap (λ h. has (the_set old h) k || has marks h) (sym same)
    | inr apart ↦ others g k (inl apart) ∙ i.done g (omega (arith, low, apart))
  ];
  to_come = λ g high. others g k (inl (λ same. omega (arith, high, same))) ∙ i.to_come g (omega (arith, high));
  others = λ g j apart. others g j (inr apart) ∙ i.others g j apart;
}

pub written_ends : (marks : List Bool) (k f : ℕ) (old new : Table) → IsWritten marks k f old new → length marks ≤ f → IsColumnJoined marks k old new
written_ends marks k f old new i ended = record {
  here = λ g. elim (cases_lt g f) [
    | inl low ↦ i.done g low
    | inr high ↦ i.to_come g high ∙ sym (ap (λ b. has (the_set old g) k || b) (has_past marks g (omega (arith, high, ended))) ∙ or_false (has (the_set old g) k))
  ];
  others = i.others;
}

-- ---- location by location

module _ (p : Program) (rules : List Rule) (own : Table) where
  pub spread_none : (n m : ℕ) (found : Table) → found ≡ empty_table n m → AreSpread p rules own 0 found
  spread_none n m found is = record {
    done = λ f k l low at. absurd (omega (arith, low));
    to_come = λ f k h. absurd (false≢true (sym (empty_holds n m f k) ∙ sym (ap (λ t. has (the_set t f) k) is) ∙ h));
  }

  -- a location that is seen outside
  pub spread_out : (n : ℕ) (l : Location) (old new : Table) → AreSpread p rules own n old → slice_get (location_list p) n ≡ Some l → is_outside p l ≡ true → IsSpread rules own n old new → AreSpread p rules own (n + 1) new
  spread_out n l old new i at outside s = record {
    done = λ f k o low found. elim (cases_eq k n) [
      | inr apart ↦
          let before = i.done f k o (omega (arith, low, apart)) found in
          let same = s.joined.others f k apart in
          (λ h. before.0 (sym same ∙ h), λ h. same ∙ before.1 h)
      | inl same ↦
          let is : l ≡ o = same_Some _ _ (sym at ∙ ap (slice_get (location_list p)) (sym same) ∙ found) in
          subst (λ j. Holds new f j ↔ IsSpreadTo p rules own o j f) (sym same) (here f o is)
    ];
    to_come = λ f k h. elim (cases_eq k n) [
      | inl same ↦ omega (arith, same)
      | inr apart ↦ let lt = i.to_come f k (sym (s.joined.others f k apart) ∙ h) in omega (arith, lt)
    ];
  }
    where
      unheld : (f : ℕ) → has (the_set old f) n ≡ false
      unheld f = elim (cases_Bool (has (the_set old f) n)) [
        | inl held ↦ let lt = i.to_come f n held in absurd (omega (arith, lt))
        | inr none ↦ none
      ]

      joined : (f : ℕ) → has (the_set new f) n ≡ has s.marks f
      joined f = s.joined.here f ∙ ap (λ b. b || has s.marks f) (unheld f)

      here : (f : ℕ) (o : Location) → l ≡ o → Holds new f n ↔ IsSpreadTo p rules own o n f
      here f o is = (
        λ h. record { outside = ap (is_outside p) (sym is) ∙ outside; derived = (s.exact f).0 (sym (joined f) ∙ h) },
        λ h. joined f ∙ (s.exact f).1 h.derived,
      )

  -- one that isn't
  pub spread_in : (n : ℕ) (l : Location) (old new : Table) → AreSpread p rules own n old → slice_get (location_list p) n ≡ Some l → is_outside p l ≡ false → new ≡ old → AreSpread p rules own (n + 1) new
  spread_in n l old new i at inside is = record {
    done = λ f k o low found. elim (cases_eq k n) [
      | inr apart ↦ let before = i.done f k o (omega (arith, low, apart)) found in (λ h. before.0 (sym (held f k) ∙ h), λ h. held f k ∙ before.1 h)
      | inl same ↦
          let one : l ≡ o = same_Some _ _ (sym at ∙ ap (slice_get (location_list p)) (sym same) ∙ found) in
          (λ h. let lt = i.to_come f k (sym (held f k) ∙ h) in absurd (omega (arith, lt, same)), λ h. absurd (false≢true (sym inside ∙ ap (is_outside p) one ∙ h.outside)))
    ];
    to_come = λ f k h. let lt = i.to_come f k (sym (held f k) ∙ h) in omega (arith, lt);
  }
    where
      held : (f k : ℕ) → has (the_set new f) k ≡ has (the_set old f) k
      held f k = ap (λ t. has (the_set t f) k) is

  pub spread_turn : (n : ℕ) (old new : Table) → n < length (location_list p) → AreSpread p rules own n old
      → ((o : Location) → slice_get (location_list p) n ≡ Some o → is_outside p o ≡ true → IsSpread rules own n old new)
      → ((o : Location) → slice_get (location_list p) n ≡ Some o → is_outside p o ≡ false → new ≡ old)
      → AreSpread p rules own (n + 1) new
  spread_turn n old new low i out inside =
      let o = get_or (location_list p) n the_input in
      let at = slice_get-get_or (location_list p) n the_input low in
      elim (cases_Bool (is_outside p o)) [
        | inl yes_ ↦ spread_out n o old new i at yes_ (out o at yes_)
        | inr no_ ↦ spread_in n o old new i at no_ (inside o at no_)
      ]
