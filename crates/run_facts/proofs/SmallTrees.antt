-- Folds over small trees, computed: each fold of a tree that is written out is what its step gives, form by form.
use Rattle.std.proofs.Common.{◌≡◌, [], sym, ap, ap₂, ◌∙◌}
use Rattle.c_tree.specs.declared.expr.Expr.{Expr, fold-Expr, fold-roll-Expr}
use Rattle.c_tree.specs.declared.expr.Expr.TheOpen.{Expr-F}
use Rattle.c_tree.specs.declared.expr.Expr.TheVariants as e
use Rattle.c_meaning.proofs.Small.{Small, K, Name, EndOfFile, Un, Bin, Both, Either, Pick, As, Par, NullName, Star, Amp, Item, Dot, Arrow, tree}

module _ {A : Type 0} (step : Expr-F A → A) where
  abbrev pub small : Small → A
  small (K t n) = step (Expr-F.Constant [] t n)
  small (Name x) = step (Expr-F.Variable x)
  small EndOfFile = step Expr-F.Eof
  small (Un op a) = step (Expr-F.Unary op (small a))
  small (Bin op a b) = step (Expr-F.Binary op (small a) (small b))
  small (Both a b) = step (Expr-F.AndAlso (small a) (small b))
  small (Either a b) = step (Expr-F.OrElse (small a) (small b))
  small (Pick c a b) = step (Expr-F.Choose (small c) (small a) (small b))
  small (As t a) = step (Expr-F.Cast t (small a))
  small (Par a) = step (Expr-F.Paren (small a))
  small NullName = step Expr-F.Null
  small (Star a) = step (Expr-F.Deref (small a))
  small (Amp a) = step (Expr-F.AddressOf (small a))
  small (Item a i) = step (Expr-F.Index (small a) (small i))
  small (Dot a m) = step (Expr-F.Member (small a) m)
  small (Arrow a m) = step (Expr-F.Arrow (small a) m)

  abbrev folded : Expr → A
  folded = fold-Expr A step

  pub fold_tree : (a : Small) → fold-Expr A step (tree a) ≡ small a
  fold_tree (K t n) =
      ap folded (sym (e.rolls-Constant [] t n)) ∙ fold-roll-Expr A step (Expr-F.Constant [] t n)
  fold_tree (Name x) =
      ap folded (sym (e.rolls-Variable x)) ∙ fold-roll-Expr A step (Expr-F.Variable x)
  fold_tree EndOfFile =
      ap folded (sym e.rolls-Eof) ∙ fold-roll-Expr A step Expr-F.Eof
  fold_tree (Un op a) =
      ap folded (sym (e.rolls-Unary op (tree a))) ∙ (fold-roll-Expr A step (Expr-F.Unary op (tree a)) ∙ ap (λ m. step (Expr-F.Unary op m)) (fold_tree a))
  fold_tree (Bin op a b) =
      ap folded (sym (e.rolls-Binary op (tree a) (tree b))) ∙ (fold-roll-Expr A step (Expr-F.Binary op (tree a) (tree b)) ∙ ap₂ (λ m n. step (Expr-F.Binary op m n)) (fold_tree a) (fold_tree b))
  fold_tree (Both a b) =
      ap folded (sym (e.rolls-AndAlso (tree a) (tree b))) ∙ (fold-roll-Expr A step (Expr-F.AndAlso (tree a) (tree b)) ∙ ap₂ (λ m n. step (Expr-F.AndAlso m n)) (fold_tree a) (fold_tree b))
  fold_tree (Either a b) =
      ap folded (sym (e.rolls-OrElse (tree a) (tree b))) ∙ (fold-roll-Expr A step (Expr-F.OrElse (tree a) (tree b)) ∙ ap₂ (λ m n. step (Expr-F.OrElse m n)) (fold_tree a) (fold_tree b))
  fold_tree (Pick c a b) =
      ap folded (sym (e.rolls-Choose (tree c) (tree a) (tree b))) ∙ (fold-roll-Expr A step (Expr-F.Choose (tree c) (tree a) (tree b)) ∙ (ap (λ m. step (Expr-F.Choose m (folded (tree a)) (folded (tree b)))) (fold_tree c) ∙ ap₂ (λ m n. step (Expr-F.Choose (small c) m n)) (fold_tree a) (fold_tree b)))
  fold_tree (As t a) =
      ap folded (sym (e.rolls-Cast t (tree a))) ∙ (fold-roll-Expr A step (Expr-F.Cast t (tree a)) ∙ ap (λ m. step (Expr-F.Cast t m)) (fold_tree a))
  fold_tree (Par a) =
      ap folded (sym (e.rolls-Paren (tree a))) ∙ (fold-roll-Expr A step (Expr-F.Paren (tree a)) ∙ ap (λ m. step (Expr-F.Paren m)) (fold_tree a))
  fold_tree NullName =
      ap folded (sym e.rolls-Null) ∙ fold-roll-Expr A step Expr-F.Null
  fold_tree (Star a) =
      ap folded (sym (e.rolls-Deref (tree a))) ∙ (fold-roll-Expr A step (Expr-F.Deref (tree a)) ∙ ap (λ m. step (Expr-F.Deref m)) (fold_tree a))
  fold_tree (Amp a) =
      ap folded (sym (e.rolls-AddressOf (tree a))) ∙ (fold-roll-Expr A step (Expr-F.AddressOf (tree a)) ∙ ap (λ m. step (Expr-F.AddressOf m)) (fold_tree a))
  fold_tree (Item a i) =
      ap folded (sym (e.rolls-Index (tree a) (tree i))) ∙ (fold-roll-Expr A step (Expr-F.Index (tree a) (tree i)) ∙ ap₂ (λ m n. step (Expr-F.Index m n)) (fold_tree a) (fold_tree i))
  fold_tree (Dot a m) =
      ap folded (sym (e.rolls-Member (tree a) m)) ∙ (fold-roll-Expr A step (Expr-F.Member (tree a) m) ∙ ap (λ n. step (Expr-F.Member n m)) (fold_tree a))
  fold_tree (Arrow a m) =
      ap folded (sym (e.rolls-Arrow (tree a) m)) ∙ (fold-roll-Expr A step (Expr-F.Arrow (tree a) m) ∙ ap (λ n. step (Expr-F.Arrow n m)) (fold_tree a))
