-- What several expressions give, as a loop collects it.
use Rattle.std.proofs.Common.{◌≡◌, ℕ, ◌+◌, ◌<◌, List, [], ◌∷◌, ◌++◌, length, drop, get_or, append_assoc, append-nil, Option, Some, None, option_map, refl, sym, ap, ◌∙◌}
use Rattle.c_tree.specs.declared.expr.Expr.{Expr}
use Rattle.c_language.proofs.Turns.{drop_turn}
use Rattle.c_meaning.specs.declared.value.Value.{Value}
use Rattle.c_meaning.specs.Values.{Types, State, eval, eval_all, beside}

module _ (types : Types) (s : State) where
  -- what was collected, with what the others give
  abbrev pub with_values : List Value → List Expr → Option (List Value)
  with_values done es = option_map (λ (vs : List Value). done ++ vs) (eval_all types es s)

  more : (done : List Value) (v : Value) (o : Option (List Value)) → option_map (λ (vs : List Value). done ++ vs) (beside (Some v) o) ≡ option_map (λ (vs : List Value). (done ++ v ∷ []) ++ vs) o
  more done v None = refl
  more done v (Some vs) = ap Some (sym (append_assoc done (v ∷ []) vs))

  first_is : (done : List Value) (es : List Expr) (i : ℕ) (e : Expr) (o : Option Value) → i < length es → e ≡ get_or es i e → eval types e s ≡ o
      → with_values done (drop i es) ≡ option_map (λ (vs : List Value). done ++ vs) (beside o (eval_all types (drop (i + 1) es) s))
  first_is done es i e o within is first =
      ap (with_values done) (drop_turn es i e within is)
      ∙ ap (λ (q : Option Value). option_map (λ (vs : List Value). done ++ vs) (beside q (eval_all types (drop (i + 1) es) s))) first

  pub values_turn : (done next : List Value) (es : List Expr) (i : ℕ) (e : Expr) (v : Value) (o : Option Value) (all : Option (List Value)) → i < length es → e ≡ get_or es i e
      → o ≡ eval types e s → o ≡ Some v → next ≡ done ++ v ∷ [] → with_values done (drop i es) ≡ all → with_values next (drop (i + 1) es) ≡ all
  values_turn done next es i e v o all within is gives some pushed h =
      ap (λ (d : List Value). with_values d (drop (i + 1) es)) pushed
      ∙ sym (more done v (eval_all types (drop (i + 1) es) s))
      ∙ sym (first_is done es i e (Some v) within is (sym gives ∙ some))
      ∙ h

  pub values_none : (done : List Value) (es : List Expr) (i : ℕ) (e : Expr) (o : Option Value) (all : Option (List Value)) → i < length es → e ≡ get_or es i e
      → o ≡ eval types e s → o ≡ None → with_values done (drop i es) ≡ all → None ≡ all
  values_none done es i e o all within is gives none h =
      sym (first_is done es i e None within is (sym gives ∙ none)) ∙ h

  pub values_end : (done : List Value) (all : Option (List Value)) → with_values done [] ≡ all → Some done ≡ all
  values_end done all h = ap Some (sym (append-nil done)) ∙ h
