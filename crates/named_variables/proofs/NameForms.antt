-- The variables that the forms of expression name, as equations.
use Rattle.std.proofs.Common.{◌≡◌, ℕ, Bool, ◌||◌, ◌⊎◌, inl, inr, sym, ap, ◌∙◌}
use Rattle.c_arith.specs.declared.operators.BinaryOp.{BinaryOp}
use Rattle.c_tree.specs.declared.expr.Expr.{Expr, fold-roll-Expr}
use Rattle.c_tree.specs.declared.expr.Expr.TheOpen.{Expr-F}
use Rattle.c_tree.specs.declared.expr.Expr.TheVariants as e
use Rattle.c_language.specs.Names.{names_step, names}

pub names-Binary : (op : BinaryOp) (a b : Expr) (x : ℕ) → names (e.Binary op a b) x ≡ (names a x || names b x)
names-Binary op a b x =
    ap (λ t. names t x) (sym (e.rolls-Binary op a b)) ∙ ap (λ (f : ℕ → Bool). f x) (fold-roll-Expr (ℕ → Bool) names_step (Expr-F.Binary op a b))

pub names-AndAlso : (a b : Expr) (x : ℕ) → names (e.AndAlso a b) x ≡ (names a x || names b x)
names-AndAlso a b x =
    ap (λ t. names t x) (sym (e.rolls-AndAlso a b)) ∙ ap (λ (f : ℕ → Bool). f x) (fold-roll-Expr (ℕ → Bool) names_step (Expr-F.AndAlso a b))

pub names-OrElse : (a b : Expr) (x : ℕ) → names (e.OrElse a b) x ≡ (names a x || names b x)
names-OrElse a b x =
    ap (λ t. names t x) (sym (e.rolls-OrElse a b)) ∙ ap (λ (f : ℕ → Bool). f x) (fold-roll-Expr (ℕ → Bool) names_step (Expr-F.OrElse a b))

pub names-Choose : (c a b : Expr) (x : ℕ) → names (e.Choose c a b) x ≡ (names c x || (names a x || names b x))
names-Choose c a b x =
    ap (λ t. names t x) (sym (e.rolls-Choose c a b)) ∙ ap (λ (f : ℕ → Bool). f x) (fold-roll-Expr (ℕ → Bool) names_step (Expr-F.Choose c a b))

pub names-Index : (a i : Expr) (x : ℕ) → names (e.Index a i) x ≡ (names a x || names i x)
names-Index a i x =
    ap (λ t. names t x) (sym (e.rolls-Index a i)) ∙ ap (λ (f : ℕ → Bool). f x) (fold-roll-Expr (ℕ → Bool) names_step (Expr-F.Index a i))

-- each form of two operands names what one of them names
pub names_two : (t a b : Expr) → ((op : BinaryOp) × (t ≡ e.Binary op a b)) ⊎ ((t ≡ e.AndAlso a b) ⊎ ((t ≡ e.OrElse a b) ⊎ (t ≡ e.Index a b))) → (x : ℕ) → names t x ≡ (names a x || names b x)
names_two t a b (inl (op, is)) x = ap (λ z. names z x) is ∙ names-Binary op a b x
names_two t a b (inr (inl is)) x = ap (λ z. names z x) is ∙ names-AndAlso a b x
names_two t a b (inr (inr (inl is))) x = ap (λ z. names z x) is ∙ names-OrElse a b x
names_two t a b (inr (inr (inr is))) x = ap (λ z. names z x) is ∙ names-Index a b x
