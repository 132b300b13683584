-- Rows gain the location of a slot, or what a statement itself does.
use mathlib.Core.Bool.{beq}
use Rattle.std.proofs.Common.{◌≡◌, ◌≤◌, ◌<◌, ℕ, Bool, true, false, length, slice_get, slice_set, Option, Some, None, refl, sym, ap, ◌∙◌, subst}
use Rattle.std.proofs.lemmas.Bool.{false≢true}
use Rattle.std.proofs.lemmas.Option.{slice_get_past}
use Rattle.c_language.proofs.Options.{some_same}
use Rattle.bit_rows.specs.Tables.{Table, the_set, with_set}
use Rattle.c_tree.specs.declared.expr.Expr.{Expr}
use Rattle.c_tree.specs.declared.program.Program.{Program}
use Rattle.dep_model.specs.declared.vertex.Slot.TheVariants.{Argument, Result, At}
use Rattle.dep_model.specs.Denoted.{TargetsOf, no_places, expr_reads}
use Rattle.dep_model.specs.DoingEffects.{maybe_reads}
use Rattle.dep_model.specs.Doings.{Doing, Does, Calls}
use Rattle.dep_model.specs.LocationLists.{location_list, AreListedOnce}
use Rattle.dep_model.specs.Locations.{TypedLocation, locations}
use Rattle.dep_model.specs.VertexOrder.{of_location, actual_uses, out_uses, out_defines, out_kills, statement_uses}
use Rattle.effect_rows.specs.Gains.{with_places, HasLocationRow}
use Rattle.effect_rows.specs.Own.{uses_of, defines_of, kills_of}
use Rattle.effect_rows.specs.Tables.{IsPlaceOf}
use Rattle.effect_rows.proofs.DoingLemmas.{gains_place}
use Rattle.effect_rows.proofs.ReadLemmas.{none_read}
use Rattle.effect_rows.proofs.StepRows.{listed_at, alone_at}
use Rattle.vertex_layout.specs.declared.calls.Call.{Call}
use Rattle.vertex_layout.specs.CallParts.{IsCall}
use Rattle.vertex_layout.specs.RowWork.{RowWork, points_for, is_call, defines_where, kills_where}

-- ---- the location at a place

place_of_listed : (p : Program) (k : ℕ) (o : TypedLocation) → slice_get (locations p) k ≡ Some o → IsPlaceOf (location_list p) o.location (Some k)
place_of_listed p k o at = record {
  found = λ i is. subst (λ j. slice_get (location_list p) j ≡ Some o.location) (some_same is) (alone_at (locations p) k o at);
  missing = λ none there. cc;
}

module _ (p : Program) (points : TargetsOf) (row : ℕ) where
  pub location_gained : (t u : Table) (k : ℕ) → HasLocationRow p row t → AreListedOnce p → k < length (locations p) → u ≡ with_set t row (slice_set (the_set t row) k true)
      → u ≡ with_places p row (of_location p points (slice_get (locations p) k)) t
  location_gained t u k has once low set =
      let o = listed_at (locations p) k low in
      gains_place p row t u o.0.location (Some k) k has once (place_of_listed p k o.0 o.1) refl set ∙ ap (λ m. with_places p row (of_location p points m) t) (sym o.1)

  pub no_location_gained : (t : Table) (k : ℕ) → length (locations p) ≤ k → t ≡ with_places p row (of_location p points (slice_get (locations p) k)) t
  no_location_gained t k high = none_read p row t (of_location p points (slice_get (locations p) k)) (ap (of_location p points) (slice_get_past (locations p) k high))

-- ---- what a statement itself does

-- tests that differ
pub unlike : (a b : Bool) → beq a b ≡ false → (x : Bool) → a ≡ x → x ≡ b → ⊥
unlike true true apart x is same = false≢true (sym apart)
unlike true false apart x is same = false≢true (sym (is ∙ same))
unlike false true apart x is same = false≢true (is ∙ same)
unlike false false apart x is same = false≢true (sym apart)

module _ (w : RowWork) where
  abbrev p : Program
  p = w.program

  pub defines_here : (f : ℕ) (d : Option Doing) (b : Bool) → is_call d ≡ b → defines_of p (points_for w) f d ≡ defines_where w f d b
  defines_here f None true is = absurd (false≢true is)
  defines_here f None false is = refl
  defines_here f (Some (Does i a)) true is = absurd (false≢true is)
  defines_here f (Some (Does i a)) false is = refl
  defines_here f (Some (Calls i to g args)) true is = refl
  defines_here f (Some (Calls i to g args)) false is = absurd (false≢true (sym is))

  pub kills_here : (f : ℕ) (d : Option Doing) (b : Bool) → is_call d ≡ b → kills_of p (points_for w) f d ≡ kills_where w f d b
  kills_here f None true is = absurd (false≢true is)
  kills_here f None false is = refl
  kills_here f (Some (Does i a)) true is = absurd (false≢true is)
  kills_here f (Some (Does i a)) false is = refl
  kills_here f (Some (Calls i to g args)) true is = refl
  kills_here f (Some (Calls i to g args)) false is = absurd (false≢true (sym is))

  pub defines_elsewhere : (f : ℕ) (d : Option Doing) (b : Bool) → (is_call d ≡ b → ⊥) → defines_where w f d b ≡ no_places
  defines_elsewhere f None true apart = refl
  defines_elsewhere f None false apart = refl
  defines_elsewhere f (Some (Does i a)) true apart = refl
  defines_elsewhere f (Some (Does i a)) false apart = absurd (apart refl)
  defines_elsewhere f (Some (Calls i to g args)) true apart = absurd (apart refl)
  defines_elsewhere f (Some (Calls i to g args)) false apart = refl

  pub kills_elsewhere : (f : ℕ) (d : Option Doing) (b : Bool) → (is_call d ≡ b → ⊥) → kills_where w f d b ≡ no_places
  kills_elsewhere f None true apart = refl
  kills_elsewhere f None false apart = refl
  kills_elsewhere f (Some (Does i a)) true apart = refl
  kills_elsewhere f (Some (Does i a)) false apart = absurd (apart refl)
  kills_elsewhere f (Some (Calls i to g args)) true apart = absurd (apart refl)
  kills_elsewhere f (Some (Calls i to g args)) false apart = refl

  pub nothing_defined : (f : ℕ) (b : Bool) → defines_where w f None b ≡ no_places
  nothing_defined f true = refl
  nothing_defined f false = refl

  pub nothing_killed : (f : ℕ) (b : Bool) → kills_where w f None b ≡ no_places
  nothing_killed f true = refl
  nothing_killed f false = refl

module _ (p : Program) (points : TargetsOf) where
  pub uses_here : (d : Option Doing) → is_call d ≡ false → uses_of p points d ≡ statement_uses p points d
  uses_here None is = refl
  uses_here (Some (Does i a)) is = refl
  uses_here (Some (Calls i to g args)) is = absurd (false≢true (sym is))

  -- the vertex of a call uses nothing
  pub no_uses : (d : Option Doing) → is_call d ≡ true → statement_uses p points d ≡ no_places
  no_uses None is = refl
  no_uses (Some (Does i a)) is = absurd (false≢true is)
  no_uses (Some (Calls i to g args)) is = refl

  pub no_argument : (f k : ℕ) (d : Option Doing) → is_call d ≡ false → actual_uses p points f d (Argument k) ≡ no_places
  no_argument f k None is = refl
  no_argument f k (Some (Does i a)) is = refl
  no_argument f k (Some (Calls i to g args)) is = absurd (false≢true (sym is))

  pub no_result : (d : Option Doing) → is_call d ≡ false → out_uses p points d Result ≡ no_places
  no_result None is = refl
  no_result (Some (Does i a)) is = refl
  no_result (Some (Calls i to g args)) is = absurd (false≢true (sym is))

  pub argument_is : (f k : ℕ) (d : Option Doing) (call : Call) (e : Expr) → IsCall d call → slice_get call.args.now k ≡ Some e → expr_reads p points e ≡ actual_uses p points f d (Argument k)
  argument_is f k d call e is at = sym (ap (λ o. actual_uses p points f o (Argument k)) is.is ∙ ap (maybe_reads p points) at)

  pub argument_missing : (f k : ℕ) (d : Option Doing) (call : Call) → IsCall d call → slice_get call.args.now k ≡ None → actual_uses p points f d (Argument k) ≡ no_places
  argument_missing f k d call is none = ap (λ o. actual_uses p points f o (Argument k)) is.is ∙ ap (maybe_reads p points) none

  -- ---- slots that a call has not

  pub in_result : (f : ℕ) (d : Option Doing) → actual_uses p points f d Result ≡ no_places
  in_result f None = refl
  in_result f (Some (Does i a)) = refl
  in_result f (Some (Calls i to g args)) = refl

  pub out_used_argument : (k : ℕ) (d : Option Doing) → out_uses p points d (Argument k) ≡ no_places
  out_used_argument k None = refl
  out_used_argument k (Some (Does i a)) = refl
  out_used_argument k (Some (Calls i to g args)) = refl

  pub out_used_location : (k : ℕ) (d : Option Doing) → out_uses p points d (At k) ≡ no_places
  out_used_location k None = refl
  out_used_location k (Some (Does i a)) = refl
  out_used_location k (Some (Calls i to g args)) = refl

  pub out_defined_argument : (f k : ℕ) (d : Option Doing) → out_defines p points f d (Argument k) ≡ no_places
  out_defined_argument f k None = refl
  out_defined_argument f k (Some (Does i a)) = refl
  out_defined_argument f k (Some (Calls i to g args)) = refl

  pub out_killed_argument : (f k : ℕ) (d : Option Doing) → out_kills p points f d (Argument k) ≡ no_places
  out_killed_argument f k None = refl
  out_killed_argument f k (Some (Does i a)) = refl
  out_killed_argument f k (Some (Calls i to g args)) = refl
