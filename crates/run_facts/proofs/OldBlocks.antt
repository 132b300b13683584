-- Of the blocks that were there before a call, what runs in it can name those of globals alone.
use Rattle.std.proofs.Common.{◌≡◌, ℕ, ◌<◌, ◌≤◌, ◌==◌, List, [], ◌∷◌, length, Option, Some, None, Bool, true, false, inl, inr, ◌⊎◌, refl, subst, arith}
use Rattle.std.specs.Prelude.{slice_get, if◌then◌else◌}
use Rattle.std.proofs.lemmas.Bool.{eqb-true}
use Rattle.std.proofs.lemmas.Option.{same_Some}
use Rattle.c_language.proofs.Options.{some_same, none_there, then_there}
use Rattle.c_tree.specs.declared.expr.Expr.{Expr}
use Rattle.c_meaning.specs.declared.value.Value.{Value}
use Rattle.c_meaning.specs.Values.{Types, State, bound, variable_opened, variable_closed, all_closed, as_type, eval_all}
use Rattle.c_meaning.specs.Activations.{Global, Executable, types_in, blank, global_begun, all_begun, opening, parameter_begun, passed, fresh, passed_to, called}
use Rattle.dep_model.proofs.Membership.{IsIn}
use Rattle.run_facts.proofs.GlobalVariables.{variables_of}
use Rattle.run_facts.proofs.KeptStates.{parameter_long}

-- what a frame names of the first so many blocks are blocks of these variables
abbrev pub NamesOld : (ℕ → Type 0) → ℕ → (ℕ → Option ℕ) → Type 0
NamesOld Q before frame = (x b : ℕ) → frame x ≡ Some b → b < before → Q x

module _ (Q : ℕ → Type 0) (before : ℕ) where
  old_bound : (frame : ℕ → Option ℕ) (x n : ℕ) → before ≤ n → NamesOld Q before frame → NamesOld Q before (bound frame x (Some n))
  old_bound frame x n most named y b e lt = by_name (x == y) e
    where
      by_name : (same : Bool) → (if same then Some n else frame y) ≡ Some b → Q y
      by_name true k = let is = some_same k in absurd (omega (arith, is, most, lt))
      by_name false k = named y b k lt

  old_unbound : (frame : ℕ → Option ℕ) (x : ℕ) → NamesOld Q before frame → NamesOld Q before (bound frame x None)
  old_unbound frame x named y b e lt = by_name (x == y) e
    where
      by_name : (same : Bool) → (if same then None else frame y) ≡ Some b → Q y
      by_name true k = none_there k
      by_name false k = named y b k lt

  pub old_opened : (types : Types) (x : ℕ) (s : State) → before ≤ length s.memory.blocks → NamesOld Q before s.frame → NamesOld Q before (variable_opened types x s).frame
  old_opened types x s most named = old_bound s.frame x (length s.memory.blocks) most named

  pub old_closed : (xs : List ℕ) (s : State) → NamesOld Q before s.frame → NamesOld Q before (all_closed xs s).frame
  old_closed [] s named = named
  old_closed (x ∷ xs) s named = old_closed xs (variable_closed x s) (old_unbound s.frame x named)

  module _ (p : Executable) where
    more_blocks : (x : ℕ) (s : State) (v : Value) → before ≤ length s.memory.blocks → before ≤ length (parameter_begun p x s v).memory.blocks
    more_blocks x s v most = let long = parameter_long p x s v in omega (arith, long, most)

    old_passed : (xs : List ℕ) (vs : List Value) (s c : State) → before ≤ length s.memory.blocks → NamesOld Q before s.frame → passed p xs vs s ≡ Some c → NamesOld Q before c.frame
    old_passed [] [] s c most named e = subst (λ (t : State). NamesOld Q before t.frame) (same_Some s c e) named
    old_passed [] (v ∷ vs) s c most named e = none_there e
    old_passed (x ∷ xs) [] s c most named e = none_there e
    old_passed (x ∷ xs) (v ∷ vs) s c most named e =
        let k = then_there (λ (w : Value). passed p xs vs (parameter_begun p x s w)) (as_type (p.typing.variable x) v) c e in
        old_passed xs vs (parameter_begun p x s k.value) c (more_blocks x s k.value most) (old_bound s.frame x (length s.memory.blocks) most named) k.same

    -- where a call begins, the globals and the parameters are named
    pub old_called : (f g : ℕ) (args : List Expr) (s c : State) → before ≤ length s.memory.blocks → NamesOld Q before (opening p []).frame → called p f g args s ≡ Some c → NamesOld Q before c.frame
    old_called f g args s c most globals e =
        let r = then_there (passed_to p f args s) (slice_get p.functions g) c e in
        let vs = then_there (λ (us : List Value). passed p r.value.params us (fresh p s)) (eval_all (types_in p f) args s) c r.same in
        old_passed r.value.params vs.value (fresh p s) c most globals vs.same

-- ---- before main

module _ (p : Executable) where
  begun_names : (gs : List Global) (s : State) (x b : ℕ) → (all_begun p gs s).frame x ≡ Some b → IsIn (variables_of gs) x ⊎ (s.frame x ≡ Some b)
  begun_names [] s x b e = inr e
  begun_names (g ∷ gs) s x b e =
      elim (begun_names gs (global_begun p g s) x b e) [
        | inl c ↦ inl (inr c)
        | inr k ↦ by_name (g.variable == x) refl k
      ]
    where
      by_name : (same : Bool) → (g.variable == x) ≡ same → (if same then Some (length s.memory.blocks) else s.frame x) ≡ Some b → IsIn (variables_of (g ∷ gs)) x ⊎ (s.frame x ≡ Some b)
      by_name true is k = inl (inl (eqb-true g.variable x is))
      by_name false is k = inr k

  -- what is named where a run begins are globals
  pub opening_names : (x b : ℕ) → (opening p []).frame x ≡ Some b → IsIn (variables_of p.globals) x
  opening_names x b e = elim (begun_names p.globals (blank p) x b e) [ inl c ↦ c | inr k ↦ none_there k ]
