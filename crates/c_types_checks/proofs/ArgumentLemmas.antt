-- Arguments, one by one.
use Rattle.std.proofs.Common.{◌≡◌, ℕ, ◌+◌, ◌<◌, List, [], ◌∷◌, drop, map, length, get_or, Bool, true, false, Result, Ok, Err, refl, sym, ap, ◌∙◌}
use Rattle.std.proofs.lemmas.List.{drop_more}
use Rattle.c_tree.specs.declared.raw.program.RawProgram.{RawProgram}
use Rattle.c_tree.specs.declared.raw.statement.RawArg.{RawArg}
use Rattle.c_tree.specs.declared.raw.statement.RawArg.TheVariants as arg
use Rattle.c_language.specs.Scopes.{Scope}
use Rattle.c_language.specs.declared.expr_type.Operand.{Operand}
use Rattle.c_types_base.specs.Judging.{then_judge, judged}
use Rattle.c_types_base.specs.declared.fault.Fault.{Fault}
use Rattle.c_types_checks.specs.CallChecks.{check_each}
use Rattle.c_types_checks.specs.Checking.{Verdict, kept, unless_broken, then_kept, Decides}
use Rattle.c_types_checks.proofs.DecidedLemmas.{first_decides, same_verdict}

tested : (b : Bool) (n : ℕ) (rest : Verdict) → unless_broken b n rest ≡ then_kept (unless_broken b n kept) rest
tested true n rest = refl
tested false n rest = refl

judged_first : (r : Result Operand ℕ) (test : Operand → Bool) (n : ℕ) (rest : Verdict)
    → then_judge (λ (x : Operand). unless_broken (test x) n rest) r ≡ then_kept (then_judge (λ (x : Operand). unless_broken (test x) n kept) r) rest
judged_first (Ok x) test n rest = tested (test x) n rest
judged_first (Err m) test n rest = refl

module _ (raw : RawProgram) (scope : Scope) {A : Type 0} (n : ℕ) (fits : A → Operand → Bool) where
  -- the first argument, and then the others
  pub each_first : (w : A) (ws : List A) (a : RawArg) (args : List RawArg)
      → check_each raw scope n fits (w ∷ ws) (a ∷ args) ≡ then_kept (check_each raw scope n fits (w ∷ []) (a ∷ [])) (check_each raw scope n fits ws args)
  each_first w ws (arg.Value e) args = judged_first (judged raw scope e) (fits w) n (check_each raw scope n fits ws args)
  each_first w ws (arg.Literal text) args = refl

  module _ {P : Type 0} (g : P → A) (ps : List P) (args : List RawArg) (i : ℕ)
      (so_far : check_each raw scope n fits (map g ps) args ≡ check_each raw scope n fits (map g (drop i ps)) (drop i args))
      (p : P) (a : RawArg) (in_ps : i < length ps) (in_args : i < length args) (is_p : p ≡ get_or ps i p) (is_a : a ≡ get_or args i a) where
    at_place : check_each raw scope n fits (map g ps) args ≡ then_kept (check_each raw scope n fits (g p ∷ []) (a ∷ [])) (check_each raw scope n fits (map g (drop (i + 1) ps)) (drop (i + 1) args))
    at_place =
        so_far
        ∙ ap (λ (xs : List P). check_each raw scope n fits (map g xs) (drop i args)) (drop_more ps i p in_ps ∙ ap (λ (q : P). q ∷ drop (i + 1) ps) (sym is_p))
        ∙ ap (λ (ys : List RawArg). check_each raw scope n fits (map g (p ∷ drop (i + 1) ps)) ys) (drop_more args i a in_args ∙ ap (λ (b : RawArg). b ∷ drop (i + 1) args) (sym is_a))
        ∙ each_first (g p) (map g (drop (i + 1) ps)) a (drop (i + 1) args)

    -- the argument at the place breaks a rule
    pub arguments_stop : (x : Fault) → Decides (check_each raw scope n fits (g p ∷ []) (a ∷ [])) (Err x) → Decides (check_each raw scope n fits (map g ps) args) (Err x)
    arguments_stop x h = same_verdict _ _ (Err x) at_place (first_decides _ _ x h)

    -- it breaks none
    pub arguments_go : check_each raw scope n fits (g p ∷ []) (a ∷ []) ≡ kept
        → check_each raw scope n fits (map g ps) args ≡ check_each raw scope n fits (map g (drop (i + 1) ps)) (drop (i + 1) args)
    arguments_go is = at_place ∙ ap (λ (u : Verdict). then_kept u (check_each raw scope n fits (map g (drop (i + 1) ps)) (drop (i + 1) args))) is
