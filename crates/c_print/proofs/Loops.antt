-- Loops that append a text for each element of a list.
use Rattle.std.proofs.Common.{◌≡◌, ℕ, zero, suc, ◌+◌, ◌<◌, ◌≤◌, min, Option, List, [], ◌∷◌, ◌++◌, length, take, get_or, map, codes, append_assoc, append-nil, arith, refl, sym, ap, ◌∙◌}
use Rattle.c_language.proofs.Turns.{IsEach}
use Rattle.c_tree.specs.declared.program.Program.{Program}
use Rattle.c_tree.specs.declared.program.Member.{Member}
use Rattle.c_tree.specs.declared.statement.Arm.{Arm}
use Rattle.c_tree.specs.declared.statement.Label.{Label}
use Rattle.c_language.specs.Words.{Bytes, joined, declared}
use Rattle.c_language.specs.Layout.{line, label_words, label_lines, arms_lines, statement_lines, body_lines, member_lines, item_lines, items_lines, param_words, named_params, arm_laid}
use Rattle.c_print.specs.Lists.{behind_commas}

pub each_comma : {X : Type 0} (f : X → Bytes) → IsEach (λ x. codes ", " ++ f x) (λ xs. behind_commas (map f xs))
each_comma f = record { at_nothing = refl; at_more = λ x xs. refl }

pub each_label : (p : Program) (n : ℕ) → IsEach (λ (x : Label). line n (label_words p x)) (λ xs. label_lines p xs n)
each_label p n = record { at_nothing = refl; at_more = λ x xs. refl }

pub each_arm : (p : Program) (n : ℕ) → IsEach (λ (x : Arm). arm_laid p x n) (λ xs. arms_lines (map (arm_laid p) xs) n)
each_arm p n = record { at_nothing = refl; at_more = λ x xs. refl }

pub each_statement : (p : Program) (n : ℕ) → IsEach (statement_lines p n) (body_lines p n)
each_statement p n = record { at_nothing = refl; at_more = λ x xs. refl }

pub each_member : (p : Program) → IsEach (λ (x : Member). line 1 (declared p x.shape x.name ++ codes ";")) (member_lines p)
each_member p = record { at_nothing = refl; at_more = λ x xs. refl }

pub each_item : (p : Program) → IsEach (item_lines p) (items_lines p)
each_item p = record { at_nothing = refl; at_more = λ x xs. refl }

-- the first text of a list, and the others
pub joined-commas : (x : Bytes) (xs : List Bytes) → joined (codes ", ") (x ∷ xs) ≡ x ++ behind_commas xs
joined-commas x [] = sym (append-nil x)
joined-commas x (y ∷ ys) = ap (λ (z : Bytes). x ++ (codes ", " ++ z)) (joined-commas y ys)

-- the parameters of a prototype as far as both lists go
pub named_params-whole : (p : Program) (ns : List (Option Bytes)) (xs : List ℕ) (k : ℕ) → min (length ns) (length xs) ≤ k → named_params p (take k ns) (take k xs) ≡ named_params p ns xs
named_params-whole p [] xs zero h = refl
named_params-whole p [] xs (suc k) h = refl
named_params-whole p (n ∷ ns) [] zero h = refl
named_params-whole p (n ∷ ns) [] (suc k) h = refl
named_params-whole p (n ∷ ns) (x ∷ xs) zero h = absurd (omega arith)
named_params-whole p (n ∷ ns) (x ∷ xs) (suc k) h = ap (λ (y : List Bytes). param_words p n x ∷ y) (named_params-whole p ns xs k (omega arith))

-- a parameter more
named_commas-more : (p : Program) (ns : List (Option Bytes)) (xs : List ℕ) (i : ℕ) (d : Option Bytes) (e : ℕ) → i < length ns → i < length xs
    → behind_commas (named_params p (take (i + 1) ns) (take (i + 1) xs)) ≡ behind_commas (named_params p (take i ns) (take i xs)) ++ (codes ", " ++ param_words p (get_or ns i d) (get_or xs i e))
named_commas-more p [] xs i d e h g = absurd (omega arith)
named_commas-more p (n ∷ ns) [] i d e h g = absurd (omega arith)
named_commas-more p (n ∷ ns) (x ∷ xs) zero d e h g = ap (λ (y : Bytes). codes ", " ++ y) (append-nil (param_words p n x))
named_commas-more p (n ∷ ns) (x ∷ xs) (suc i) d e h g =
    let k : suc i + 1 ≡ suc (i + 1) = omega arith in
    ap (λ (k : ℕ). behind_commas (named_params p (take k (n ∷ ns)) (take k (x ∷ xs)))) k
    ∙ ap (λ (y : Bytes). codes ", " ++ (param_words p n x ++ y)) (named_commas-more p ns xs i d e (omega arith) (omega arith))
    ∙ ap (λ (y : Bytes). codes ", " ++ y) (sym (append_assoc (param_words p n x) (behind_commas (named_params p (take i ns) (take i xs))) (codes ", " ++ param_words p (get_or ns i d) (get_or xs i e))))

-- a turn of the loop over the parameters of a prototype
pub named_turn : (p : Program) (ns : List (Option Bytes)) (xs : List ℕ) (i : ℕ) (name : Option Bytes) (e : ℕ) (start out with_comma new : Bytes)
    → i < length ns → i < length xs → name ≡ get_or ns i name → out ≡ start ++ behind_commas (named_params p (take i ns) (take i xs)) → with_comma ≡ out ++ codes ", "
    → new ≡ with_comma ++ param_words p name (get_or xs i e) → new ≡ start ++ behind_commas (named_params p (take (i + 1) ns) (take (i + 1) xs))
named_turn p ns xs i name e start out with_comma new h g is o q r =
    r ∙ ap (λ (y : Bytes). y ++ param_words p name (get_or xs i e)) (q ∙ ap (λ (y : Bytes). y ++ codes ", ") o)
    ∙ append_assoc (start ++ behind_commas (named_params p (take i ns) (take i xs))) (codes ", ") (param_words p name (get_or xs i e))
    ∙ append_assoc start (behind_commas (named_params p (take i ns) (take i xs))) (codes ", " ++ param_words p name (get_or xs i e))
    ∙ ap (λ y. start ++ (behind_commas (named_params p (take i ns) (take i xs)) ++ (codes ", " ++ param_words p y (get_or xs i e)))) is
    ∙ ap (λ (y : Bytes). start ++ y) (sym (named_commas-more p ns xs i name e h g))
