-- Rows that gain what another row has, and which of them are to be taken again.
use Rattle.std.proofs.Common.{◌≡◌, ℕ, ◌*◌, ◌<◌, ◌≤◌, inl, inr, Bool, true, false, ◌||◌, List, [], length, get_or, set, refl, sym, ap, ◌∙◌, subst, arith}
use Rattle.std.specs.Prelude.{if◌then◌else◌}
use Rattle.std.proofs.lemmas.Bool.{cases_eq, false≢true, or_cases, or_right}
use Rattle.std.proofs.lemmas.List.{get_or-set_same, get_or-set_other, get_or_default}
use Rattle.std.proofs.lemmas.List.Sums.{sum_by-le, count_by-le-length}
use Rattle.bit_rows.specs.Sets.{has, union, count_of}
use Rattle.bit_rows.specs.Tables.{Table, the_set, with_set, IsSized, IsGrown, count_all}
use Rattle.bit_rows.proofs.SetLemmas.{same_set, has-union}
use Rattle.bit_rows.proofs.TableLemmas.{the_set-with_set, other-with_set}
use Rattle.summary_edges.specs.declared.exit_rows.ExitRows.{ExitRows}
use Rattle.summary_edges.specs.ExitRows.{IsTable, HaveOneShape, IsJoined, HasSpread, IsAbove}

-- ---- shapes
pub one_shape : (x : ExitRows) → IsTable x → HaveOneShape x x
one_shape x t = record { table = t; rows_are = refl; bits_are = refl }

pub shapes_follow : (a b c : ExitRows) → HaveOneShape a b → HaveOneShape b c → HaveOneShape a c
shapes_follow a b c h k = record { table = k.table; rows_are = k.rows_are ∙ h.rows_are; bits_are = k.bits_are ∙ h.bits_are }

-- ---- growth
pub grown_none : (t : Table) → IsGrown t t false
grown_none t = record { kept = λ r i h. h; more = λ e. absurd (false≢true e); same = λ _. refl }

pub grown_both : (a b c : Table) (g r : Bool) → IsGrown a b g → IsGrown b c r → IsGrown a c (g || r)
grown_both a b c true true h k = record {
  kept = λ r i x. k.kept r i (h.kept r i x);
  more = λ _. let one = h.more refl in let two = k.more refl in omega (arith, one, two);
  same = λ e. absurd (false≢true (sym e));
}
grown_both a b c true false h k = record {
  kept = λ r i x. k.kept r i (h.kept r i x);
  more = λ _. subst (λ t. count_all a < count_all t) (sym (k.same refl)) (h.more refl);
  same = λ e. absurd (false≢true (sym e));
}
grown_both a b c false true h k = record {
  kept = λ r i x. k.kept r i (h.kept r i x);
  more = λ _. subst (λ t. count_all t < count_all c) (h.same refl) (k.more refl);
  same = λ e. absurd (false≢true (sym e));
}
grown_both a b c false false h k = record {
  kept = λ r i x. k.kept r i (h.kept r i x);
  more = λ e. absurd (false≢true e);
  same = λ _. k.same refl ∙ h.same refl;
}

pub neither : (g r : Bool) → (g || r) ≡ false → (g ≡ false) × (r ≡ false)
neither true r h = absurd (false≢true (sym h))
neither false r h = (refl, h)

-- ---- one row joined into another
twice : (b : Bool) → (b || b) ≡ b
twice true = refl
twice false = refl

module _ (i j : ℕ) (old new : ExitRows) (grows : Bool) (table : IsTable old) (i_in : i < length old.rows.sets) (j_in : j < length old.rows.sets) where
  -- a row that has gained another row
  pub joined_is : new.rows ≡ with_set old.rows i (union (the_set old.rows i) (the_set old.rows j)) → IsGrown old.rows new.rows grows → IsSized (length old.rows.sets) old.rows.bits new.rows
      → new.fresh.items ≡ (if grows then set old.fresh.items i true else old.fresh.items) → length new.fresh.items ≡ length old.fresh.items → IsJoined i j old new grows
  joined_is is grown sized flags many = record {
    shape = record {
      table = record {
        sized = subst (λ n. IsSized n new.rows.bits new.rows) (sym sized.rows_are) (subst (λ b. IsSized (length old.rows.sets) b new.rows) (sym sized.bits_are) sized);
        flags = many ∙ table.flags ∙ sym sized.rows_are;
      };
      rows_are = sized.rows_are;
      bits_are = sized.bits_are;
    };
    grown = grown;
    here = λ k.
        ap (λ t. has (the_set t i) k) is
        ∙ ap (λ s. has s k) (the_set-with_set old.rows i (union (the_set old.rows i) (the_set old.rows j)) i_in)
        ∙ has-union (the_set old.rows i) (the_set old.rows j) k (table.sized.full i i_in ∙ sym (table.sized.full j j_in));
    others = λ m other. ap (λ t. the_set t m) is ∙ other-with_set old.rows i m (union (the_set old.rows i) (the_set old.rows j)) other;
    flags = flags;
  }

  module _ (h : IsJoined i j old new grows) where
    -- a row joined into itself is the same
    same_row : i ≡ j → the_set new.rows j ≡ the_set old.rows j
    same_row e =
        let long_new : length (the_set new.rows j) ≡ new.rows.bits = h.shape.table.sized.full j (let n = h.shape.rows_are in omega (arith, n, j_in)) in
        let long_old = table.sized.full j j_in in
        same_set (the_set new.rows j) (the_set old.rows j) (long_new ∙ h.shape.bits_are ∙ sym long_old)
        (λ k low. ap (λ m. has (the_set new.rows m) k) (sym e) ∙ h.here k ∙ ap (λ m. has (the_set old.rows m) k || has (the_set old.rows j) k) e ∙ twice (has (the_set old.rows j) k))

    source_is : the_set new.rows j ≡ the_set old.rows j
    source_is = elim (cases_eq j i) [
      | inl same ↦ same_row (sym same)
      | inr other ↦ h.others j other
    ]

    flag_test : (t : Bool) → grows ≡ t → new.fresh.items ≡ (if t then set old.fresh.items i true else old.fresh.items)
    flag_test t e = h.flags ∙ ap (λ b. if b then set old.fresh.items i true else old.fresh.items) e

    flag_kept : (t : Bool) → grows ≡ t → (m : ℕ) → has old.fresh.items m ≡ true → has new.fresh.items m ≡ true
    flag_kept false e m is = ap (λ fs. has fs m) (flag_test false e) ∙ is
    flag_kept true e m is = elim (cases_eq m i) [
      | inl same ↦
          let low = i_in in let long = table.flags in
          ap (has new.fresh.items) same ∙ ap (λ fs. has fs i) (flag_test true e) ∙ get_or-set_same old.fresh.items i true false (omega (arith, low, long))
      | inr other ↦ ap (λ fs. has fs m) (flag_test true e) ∙ get_or-set_other old.fresh.items i m true false other ∙ is
    ]

    unflagged : (t : Bool) → grows ≡ t → (m : ℕ) → has new.fresh.items m ≡ false → the_set new.rows m ≡ the_set old.rows m
    unflagged false e m none = ap (λ t. the_set t m) (h.grown.same e)
    unflagged true e m none = elim (cases_eq m i) [
      | inl same ↦
          let low = i_in in let long = table.flags in
          absurd (false≢true (sym none ∙ ap (has new.fresh.items) same ∙ ap (λ fs. has fs i) (flag_test true e) ∙ get_or-set_same old.fresh.items i true false (omega (arith, low, long))))
      | inr other ↦ h.others m other
    ]

    pub join_spreads : HasSpread (λ m. m ≡ i) j old new grows
    join_spreads = record {
      shape = h.shape;
      grown = h.grown;
      none = λ e. flag_test false e;
      source = source_is;
      from = λ m k held. elim (cases_eq m i) [
        | inl same ↦ elim (or_cases (has (the_set old.rows i) k) (has (the_set old.rows j) k) (sym (h.here k) ∙ ap (λ n. has (the_set new.rows n) k) (sym same) ∙ held)) [
          | inl a ↦ inl (ap (λ n. has (the_set old.rows n) k) same ∙ a)
          | inr b ↦ inr (same, b)
        ]
        | inr other ↦ inl (ap (λ s. has s k) (sym (h.others m other)) ∙ held)
      ];
      flags = flag_kept grows refl;
      others = unflagged grows refl;
    }

    pub join_above : IsAbove new i j
    join_above k held = h.here k ∙ or_right (has (the_set old.rows i) k) (has (the_set old.rows j) k) (ap (λ s. has s k) (sym source_is) ∙ held)

-- ---- one join after another
pub spread_none : (P : ℕ → Type 0) (i : ℕ) (x : ExitRows) → IsTable x → HasSpread P i x x false
spread_none P i x table = record {
  shape = one_shape x table;
  grown = grown_none x.rows;
  none = λ _. refl;
  source = refl;
  from = λ j k held. inl held;
  flags = λ j is. is;
  others = λ j none. refl;
}

pub spread_weaker : (P Q : ℕ → Type 0) (i : ℕ) (old new : ExitRows) (grows : Bool) → ((j : ℕ) → P j → Q j) → HasSpread P i old new grows → HasSpread Q i old new grows
spread_weaker P Q i old new grows weaker h = record {
  shape = h.shape;
  grown = h.grown;
  none = h.none;
  source = h.source;
  from = λ j k held. elim (h.from j k held) [
    | inl a ↦ inl a
    | inr b ↦ inr (weaker j b.0, b.1)
  ];
  flags = h.flags;
  others = h.others;
}

pub spread_both : (P : ℕ → Type 0) (i : ℕ) (a b c : ExitRows) (g r : Bool) → HasSpread P i a b g → HasSpread P i b c r → HasSpread P i a c (g || r)
spread_both P i a b c g r h k = record {
  shape = shapes_follow a b c h.shape k.shape;
  grown = grown_both a.rows b.rows c.rows g r h.grown k.grown;
  none = λ e. let n = neither g r e in k.none n.1 ∙ h.none n.0;
  source = k.source ∙ h.source;
  from = λ j m held. elim (k.from j m held) [
    | inl before ↦ h.from j m before
    | inr q ↦ inr (q.0, ap (λ s. has s m) (sym h.source) ∙ q.1)
  ];
  flags = λ j is. k.flags j (h.flags j is);
  others = λ j none. k.others j none ∙ h.others j (unmarked j none);
}
  where
    by_flag : (f : Bool) (j : ℕ) → has b.fresh.items j ≡ f → has c.fresh.items j ≡ false → has b.fresh.items j ≡ false
    by_flag false j e none = e
    by_flag true j e none = absurd (false≢true (sym none ∙ k.flags j e))

    unmarked : (j : ℕ) → has c.fresh.items j ≡ false → has b.fresh.items j ≡ false
    unmarked j none = by_flag (has b.fresh.items j) j refl none

-- a row that has all that the spreading row has goes on to have it
pub above_stays : (P : ℕ → Type 0) (i j : ℕ) (old new : ExitRows) (grows : Bool) → HasSpread P i old new grows → IsAbove old j i → IsAbove new j i
above_stays P i j old new grows h above k held = h.grown.kept j k (above k (ap (λ s. has s k) (sym h.source) ∙ held))

-- ---- how many bits there are
pub count_bounded : (start x : ExitRows) → HaveOneShape start x → count_all x.rows ≤ length start.rows.sets * start.rows.bits
count_bounded start x shape =
    let b = start.rows.bits in
    let each = sum_by-le count_of b x.rows.sets (λ k d h.
    let row : List Bool = get_or x.rows.sets k d in
    let bits = shape.bits_are in
    let long : length row ≡ x.rows.bits = ap length (get_or_default x.rows.sets k d [] h) ∙ shape.table.sized.full k h in
    let most = count_by-le-length (λ (t : Bool). t) row in
    omega (arith, long, most, bits)) in
    subst (λ m. count_all x.rows ≤ m) (ap (λ k. k * b) shape.rows_are) each
