-- A declaration by a call of which the call alone is kept becomes two statements.
use Rattle.std.proofs.Common.{◌≡◌, ℕ, List, [], ◌∷◌, ◌++◌, Some, None, true, false, sym, ap, ◌∙◌, append-nil}
use Rattle.std.specs.Prelude.{map, option_map}
use Rattle.c_tree.specs.declared.expr.Expr.{Expr}
use Rattle.c_tree.specs.declared.numbered.Start.{Start}
use Rattle.c_tree.specs.declared.program.Init.TheVariants as init
use Rattle.c_tree.specs.declared.program.Program.{Program}
use Rattle.c_tree.specs.declared.statement.Arm.{Arm}
use Rattle.c_tree.specs.declared.statement.Statement.{Statement, out-Statement}
use Rattle.c_tree.specs.declared.statement.Statement.TheOpen.{Statement-F}
use Rattle.c_tree.specs.declared.statement.Statement.TheVariants as s
use Rattle.c_tree.specs.declared.statement.Statement.TheViews.{out-roll-Statement}
use Rattle.c_tree.specs.declared.statement.Target.TheVariants as target
use Rattle.c_tree.specs.Numbered.{layer_start, own_id}
use Rattle.c_language.specs.Layout.{var_words}
use Rattle.kept_numbers.specs.Ranks.{rank}
use Rattle.projection.specs.Kept.{Kept, chosen as chosen_places}
use Rattle.projection.specs.Renumbering.{renamed}
use Rattle.projection.specs.Projection.{called, projected_step, projected_arm_step}
use Rattle.c_scope_laws.proofs.TreeLevels.{chosen, unchosen}
use Rattle.own_words.specs.OwnWords.{own_words, IsSplit}
use Rattle.own_words.proofs.Forms.{fold_layer, text, own_text, step_left}
use Rattle.own_words.proofs.Words.{numbers, ranked, smaller, var_words_same}

module _ (p : Program) (k : Kept ℕ) (i l v f : ℕ) (args : List Expr) where
  abbrev declaration : Statement
  declaration = s.Declare None l (ranked p k v) init.None

  abbrev call : Statement
  call = called k (numbers p k) i l target.None f args

  step_is : k.statement i ≡ true → k.result i ≡ false → k.variable v ≡ true → step_left p k (Statement-F.Invoke i l (target.Declared v) f args) ≡ declaration ∷ (call ∷ [])
  step_is kept alone stays =
      chosen _ _ kept ∙ unchosen _ _ alone ∙ ap (λ ws. ws ++ (call ∷ [])) (chosen (declaration ∷ []) [] stays)

  declared_words : k.variable v ≡ true → own_words (smaller p k) declaration ≡ var_words p v
  declared_words stays =
      own_text (smaller p k) declaration
      ∙ ap (text (smaller p k)) (ap out-Statement (sym (s.rolls-Declare None l (ranked p k v) init.None)) ∙ out-roll-Statement (Statement-F.Declare None l (ranked p k v) init.None))
      ∙ append-nil (var_words (smaller p k) (ranked p k v))
      ∙ var_words_same p k v stays

  abbrev call_layer : Statement-F Statement Arm
  call_layer = Statement-F.Invoke (rank k.statement i) l target.None (numbers p k f) (map (renamed (ranked p k)) (chosen_places (k.argument i) 0 args))

  call_number : own_id call ≡ Some (rank k.statement i)
  call_number =
      ap (λ (z : Statement-F Statement Arm). option_map (λ (t : Start). t.id) (layer_start z)) (ap out-Statement (sym (s.rolls-Invoke _ _ _ _ _)) ∙ out-roll-Statement call_layer)

  -- the call follows its declaration
  pub call_follows : (x : Statement) → out-Statement x ≡ Statement-F.Invoke i l (target.Declared v) f args → k.statement i ≡ true → k.result i ≡ false → k.variable v ≡ true → IsSplit p k i v x
  call_follows x is kept alone stays = record {
    declaration = declaration;
    call = call;
    left = fold_layer (List Statement) Arm (projected_step k (numbers p k)) (projected_arm_step k (numbers p k)) x ∙ ap (step_left p k) is ∙ step_is kept alone stays;
    words = declared_words stays;
    number = call_number;
  }
