-- What the rules of the calls derive is what functions do by chains of calls.
use Rattle.std.proofs.Common.{◌≡◌, ◌<◌, ◌↔◌, ℕ, zero, suc, Bool, true, List, [], ◌∷◌, All, length, get_or, inl, inr, Some, slice_get, Contains, refl, sym, ap, ◌∙◌, subst, arith}
use Rattle.std.specs.List.{list_any}
use Rattle.std.specs.Option.{option_map_or}
use Rattle.std.proofs.lemmas.Bool.{or_left, or_right, or_cases}
use Rattle.std.proofs.lemmas.List.{get_or_default}
use Rattle.std.proofs.lemmas.Option.{slice_get_within}
use Rattle.bit_rows.specs.Tables.{Table, Holds, IsSized}
use Rattle.rule_closure.specs.declared.closure.Rule.{Rule}
use Rattle.rule_closure.specs.Rules.{Derived, seed, by, IsRuleWithin}
use Rattle.rule_closure.proofs.ListLemmas.{contains_none, contains_head, contains_cons, contains_cases}
use Rattle.rule_closure.proofs.RuleLemmas.{derived_in, derived_within}
use Rattle.c_tree.specs.declared.expr.Expr.{Expr}
use Rattle.c_tree.specs.declared.program.Function.{Function}
use Rattle.c_tree.specs.declared.program.Program.{Program}
use Rattle.c_tree.specs.declared.statement.Target.{Target}
use Rattle.dep_model.specs.declared.points_to.Effects.{Effects}
use Rattle.dep_model.specs.declared.points_to.PointsTo.{PointsTo}
use Rattle.dep_model.specs.DoingEffects.{doing_uses, doing_defines}
use Rattle.dep_model.specs.Doings.{Doing, Calls, body_doings, doings_of}
use Rattle.dep_model.specs.LocationLists.{location_list}
use Rattle.dep_model.specs.LocationRows.{points_of}
use Rattle.dep_model.specs.Locations.{TypedLocation, locations}
use Rattle.dep_model.specs.ModRef.{IsCalledFrom, itself, call, Modifies, MayUse}
use Rattle.effect_rows.proofs.StepRows.{alone_at}
use Rattle.mod_ref.specs.declared.own.Own.{Own}
use Rattle.mod_ref.specs.Columns.{column, AreSpread}
use Rattle.mod_ref.specs.Effects.{AreEffectsByPlace}
use Rattle.mod_ref.specs.Own.{call_rule, IsCallBelow, IsOwn}
use Rattle.mod_ref.proofs.ColumnLemmas.{column_has, column_length}

-- ---- lists

any_in : {A : Type 0} (test : A → Bool) (xs : List A) → list_any test xs ≡ true → (x : A) × Contains xs x × (test x ≡ true)
any_in test [] h = cc
any_in test (x ∷ xs) h = elim (or_cases (test x) (list_any test xs) h) [
  | inl here ↦ (x, contains_head x xs, here)
  | inr later ↦ let r = any_in test xs later in (r.0, contains_cons x xs r.0 r.1, r.2)
]

in_any : {A : Type 0} (test : A → Bool) (xs : List A) (x : A) → Contains xs x → test x ≡ true → list_any test xs ≡ true
in_any test [] x c h = absurd (contains_none x c)
in_any test (y ∷ xs) x c h = elim (contains_cases y xs x c) [
  | inl same ↦ or_left (test y) (list_any test xs) (ap test same ∙ h)
  | inr later ↦ or_right (test y) (list_any test xs) (in_any test xs x later h)
]

all_of : {A : Type 0} (P : A → Type 0) (xs : List A) → ((x : A) → Contains xs x → P x) → All P xs
all_of P xs each = λ k d low. each (get_or xs k d) (k, low, get_or_default xs k (get_or xs k d) d low)

module _ (p : Program) where
  -- a function that has a statement is one of the program
  stated : (g : ℕ) (d : Doing) → Contains (doings_of p g) d → g < length p.functions
  stated g d c = within p.functions g c
    where
      within : (fs : List Function) (g : ℕ) → Contains (option_map_or (λ (f : Function). body_doings f.body) (slice_get fs g) []) d → g < length fs
      within [] g c = absurd (contains_none d c)
      within (f ∷ fs) zero c = omega arith
      within (f ∷ fs) (suc g) c = let lt = within fs g c in omega (arith, lt)

  -- a call in front of a chain
  called_before : {f i h : ℕ} {to : Target} {args : List Expr} (g : ℕ) → IsCalledFrom p h g → Contains (doings_of p f) (Calls i to h args) → IsCalledFrom p f g
  called_before g itself member = call itself member
  called_before g (call {g = k} from next) member = call (called_before k from member) next

  -- ---- rules

  abbrev AreCalls : List Rule → Type 0
  AreCalls rules = (r : Rule) → Contains rules r ↔ IsCallBelow p (length p.functions) r

  pub calls_within : (rules : List Rule) → AreCalls rules → All (IsRuleWithin (length p.functions)) rules
  calls_within rules are = all_of (IsRuleWithin (length p.functions)) rules (λ r c.
      let b = (are r).0 c in
      subst (IsRuleWithin (length p.functions)) b.call.rule_is (record { first_in = b.call.callee_in; second_in = b.call.callee_in; gives_in = b.caller_in }))

  module _ (rules : List Rule) (are : AreCalls rules) (own : Table) (rows : length own.sets ≡ length p.functions) (k : ℕ) where
    -- a function that is called from f has it
    record IsCalledHolder (f : ℕ) : Type 0 where
      function : ℕ
      called : IsCalledFrom p f function
      holds : Holds own function k

    holder : (f : ℕ) → Derived rules (column own k) f → IsCalledHolder f
    holder f d = derived_in rules (column own k) IsCalledHolder
        (λ v h. record { function = v; called = itself; holds = sym (column_has own k v) ∙ h })
        (λ r c first second.
        let b = (are r).0 c in
        subst (λ (x : Rule). IsCalledHolder x.first → IsCalledHolder x.gives) b.call.rule_is
        (λ h. record { function = h.function; called = called_before h.function h.called b.call.member; holds = h.holds }) first)
        d

    low : (f : ℕ) → Derived rules (column own k) f → f < length p.functions
    low f d =
        let n : length (column own k) ≡ length p.functions = column_length own k ∙ rows in
        subst (λ m. f < m) n (derived_within rules (column own k) (subst (λ m. All (IsRuleWithin m) rules) (sym n) (calls_within rules are)) d)

    derived : (f g : ℕ) → IsCalledFrom p f g → Derived rules (column own k) g → Derived rules (column own k) f
    derived f g itself d = d
    derived f h (call {g = g} {i = i} {to = to} {args = args} from member) d =
        let caller = stated g (Calls i to h args) member in
        let rule : Contains rules (call_rule g h) = (are (call_rule g h)).1 (record {
          caller = g;
          caller_in = caller;
          call = record { id = i; target = to; callee = h; args = args; member = member; callee_in = low h d; rule_is = refl };
        }) in
        derived f g from (by rule d d)

    holder_derived : (f g : ℕ) → IsCalledFrom p f g → Holds own g k → Derived rules (column own k) f
    holder_derived f g called holds = derived f g called (seed (column_has own k g ∙ holds))

-- ---- what functions modify and use

module _ (p : Program) (t : PointsTo) (w : Own) (own : IsOwn p t (length p.functions) w) where
  modified_there : (found : Table) → AreSpread p w.calls.items w.modified (length (location_list p)) found → (f k : ℕ) (o : TypedLocation) → slice_get (locations p) k ≡ Some o → Holds found f k ↔ Modifies p (points_of p t) f o.location
  modified_there found are f k o at =
      let place = alone_at (locations p) k o at in
      let low = slice_get_within (location_list p) k o.location place in
      let done = are.done f k o.location low place in
      let rows : length w.modified.sets ≡ length p.functions = own.rows.modified_sized.rows_are ∙ ap (λ (q : Program). length q.functions) own.program_is in (
        λ h.
            let s = done.0 h in
            let c = holder p w.calls.items own.calls_are w.modified rows k f s.derived in
            let lt = own.modified_below c.function k c.holds in
            let d = any_in (λ (x : Doing). doing_defines p (points_of p t) c.function x o.location) (doings_of p c.function) (sym (own.modified_are c.function k o lt at) ∙ c.holds) in
            record { function = c.function; doing = d.0; called = c.called; member = d.1; defined = d.2; outside = s.outside },
        λ m.
            let lt = stated p m.function m.doing m.member in
            let held : Holds w.modified m.function k = own.modified_are m.function k o lt at ∙ in_any (λ (x : Doing). doing_defines p (points_of p t) m.function x o.location) (doings_of p m.function) m.doing m.member m.defined in
            done.1 (record { outside = m.outside; derived = holder_derived p w.calls.items own.calls_are w.modified rows k f m.function m.called held }),
      )

  used_there : (found : Table) → AreSpread p w.calls.items w.used (length (location_list p)) found → (f k : ℕ) (o : TypedLocation) → slice_get (locations p) k ≡ Some o → Holds found f k ↔ MayUse p (points_of p t) f o.location
  used_there found are f k o at =
      let place = alone_at (locations p) k o at in
      let low = slice_get_within (location_list p) k o.location place in
      let done = are.done f k o.location low place in
      let rows : length w.used.sets ≡ length p.functions = own.rows.used_sized.rows_are ∙ ap (λ (q : Program). length q.functions) own.program_is in (
        λ h.
            let s = done.0 h in
            let c = holder p w.calls.items own.calls_are w.used rows k f s.derived in
            let lt = own.used_below c.function k c.holds in
            let d = any_in (λ (x : Doing). doing_uses p (points_of p t) x o.location) (doings_of p c.function) (sym (own.used_are c.function k o lt at) ∙ c.holds) in
            record { function = c.function; doing = d.0; called = c.called; member = d.1; used = d.2; outside = s.outside },
        λ m.
            let lt = stated p m.function m.doing m.member in
            let held : Holds w.used m.function k = own.used_are m.function k o lt at ∙ in_any (λ (x : Doing). doing_uses p (points_of p t) x o.location) (doings_of p m.function) m.doing m.member m.used in
            done.1 (record { outside = m.outside; derived = holder_derived p w.calls.items own.calls_are w.used rows k f m.function m.called held }),
      )

  -- rows of these sizes
  sized_there : (table found : Table) → IsSized (length w.effects.functions) (length (locations w.effects)) table → IsSized (length table.sets) table.bits found → IsSized (length p.functions) (length (locations p)) found
  sized_there table found before size =
      let rows : length table.sets ≡ length p.functions = before.rows_are ∙ ap (λ (q : Program). length q.functions) own.program_is in
      let bits : table.bits ≡ length (locations p) = before.bits_are ∙ ap (λ (q : Program). length (locations q)) own.program_is in
      subst (λ n. IsSized n (length (locations p)) found) rows (subst (λ n. IsSized (length table.sets) n found) bits size)

  pub effects_are : (e : Effects)
      → AreSpread p w.calls.items w.modified (length (location_list p)) e.modified → IsSized (length w.modified.sets) w.modified.bits e.modified
      → AreSpread p w.calls.items w.used (length (location_list p)) e.used → IsSized (length w.used.sets) w.used.bits e.used
      → AreEffectsByPlace p (points_of p t) e
  effects_are e modified modified_size used used_size = record {
    sized = record { modified_sized = sized_there w.modified e.modified own.rows.modified_sized modified_size; used_sized = sized_there w.used e.used own.rows.used_sized used_size };
    modified_are = modified_there e.modified modified;
    used_are = used_there e.used used;
  }

-- what is said of the rows to which it was made
pub own_again : (p : Program) (t : PointsTo) (n : ℕ) (w : Own) → IsOwn p t n w → IsOwn p w.points.now n w
own_again p t n w own = subst (λ u. IsOwn p u n w) (sym own.points_is) own

pub own_calls_within : (p : Program) (t : PointsTo) (w : Own) → IsOwn p t (length p.functions) w → All (IsRuleWithin w.functions) w.calls.items
own_calls_within p t w own =
    subst (λ n. All (IsRuleWithin n) w.calls.items) (sym (own.rows.functions_are ∙ ap (λ (q : Program). length q.functions) own.program_is)) (calls_within p w.calls.items own.calls_are)
