-- What is found near the place at which reading stopped begins a construct without a production.
use Rattle.std.proofs.Common.{◌≡◌, ℕ, zero, suc, ◌+◌, ◌-◌, ◌≤◌, ◌<◌, min, [], ◌∷◌, ◌++◌, length, take, drop, reverse, refl, sym, ap, ◌∙◌, arith, true, false, Option, Some, None, IfSome, inl, inr, if◌then◌else◌}
use Rattle.std.proofs.lemmas.Bool.{cases_Bool}
use Rattle.std.proofs.lemmas.List.{take-append-drop, length-take-le, length-drop}
use Rattle.c_language.specs.TokenForms.{Tokens}
use Rattle.c_parse_left_out.specs.Places.{IsWithoutProductionAt}
use Rattle.c_parse_left_out.specs.Near.{begins_between, begins_at, first_from, first_within, end_near, begun_near, left_out_near}
use Rattle.c_parse_left_out.proofs.NamingLaws.{named_at}

begun_before : (ts rest : Tokens) (at : ℕ) → drop at ts ≡ rest → begins_between (reverse (take at ts)) rest ≡ true → IsWithoutProductionAt ts at
begun_before ts [] at e h = absurd cc
begun_before ts (t ∷ behind) at e h =
    let whole : ts ≡ take at ts ++ t ∷ behind = sym (take-append-drop at ts) ∙ ap (λ r. take at ts ++ r) e in
    let left : length ts - at ≡ suc (length behind) = sym (length-drop at ts) ∙ ap length e in
    named_at ts (take at ts) behind t at whole (sym (length-take-le at ts (omega (arith, left)))) h

begun : (ts : Tokens) (at : ℕ) → begins_at ts at ≡ true → IsWithoutProductionAt ts at
unfolding begins_at
begun ts at h = begun_before ts (drop at ts) at refl h

-- ---- one place after another

or_later : (ts : Tokens) (at : ℕ) (later : Option ℕ) → IfSome later (λ x. IsWithoutProductionAt ts x) → IfSome (if begins_at ts at then Some at else later) (λ x. IsWithoutProductionAt ts x)
or_later ts at later h = elim (cases_Bool (begins_at ts at)) [
  | inl is ↦ rw is (begun ts at is)
  | inr isnt ↦ rw isnt h
]

from_begins : (more : ℕ) (ts : Tokens) (at : ℕ) → IfSome (first_from more ts at) (λ x. IsWithoutProductionAt ts x)
unfolding first_from
from_begins zero ts at = tt
from_begins (suc more) ts at = or_later ts at (first_from more ts (at + 1)) (from_begins more ts (at + 1))

within_begins : (ts : Tokens) (from_ to : ℕ) → IfSome (first_within ts from_ to) (λ x. IsWithoutProductionAt ts x)
unfolding first_within
within_begins ts from_ to = from_begins (to - from_) ts from_

there_begins : (ts : Tokens) (stop : ℕ) → IfSome (begun_near ts stop) (λ x. IsWithoutProductionAt ts x)
unfolding begun_near
there_begins ts stop = or_later ts _ _ (or_later ts _ _ (or_later ts _ _ (within_begins ts (stop - 5) (end_near ts stop))))

-- A construct that is found begins where it is found.
pub near_begins : (ts : Tokens) (stop : ℕ) → IfSome (left_out_near ts stop) (λ x. IsWithoutProductionAt ts x)
unfolding left_out_near
near_begins ts stop = there_begins ts (min stop (length ts))

-- ---- the search

pub found_here : (ts : Tokens) (at to : ℕ) → at < to → begins_at ts at ≡ true → first_within ts at to ≡ Some at
unfolding first_within first_from
found_here ts at to p is =
    let e : to - at ≡ suc (to - (at + 1)) = omega (arith, p) in
    ap (λ more. first_from more ts at) e ∙ rw is refl

pub found_later : (ts : Tokens) (at to : ℕ) → at < to → begins_at ts at ≡ false → first_within ts at to ≡ first_within ts (at + 1) to
unfolding first_within first_from
found_later ts at to p isnt =
    let e : to - at ≡ suc (to - (at + 1)) = omega (arith, p) in
    ap (λ more. first_from more ts at) e ∙ rw isnt refl

pub none_within : (ts : Tokens) (at to : ℕ) → to ≤ at → first_within ts at to ≡ None
unfolding first_within first_from
none_within ts at to p =
    let e : to - at ≡ 0 = omega (arith, p) in
    ap (λ more. first_from more ts at) e
