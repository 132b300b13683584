-- Lists that grow, call by call and turn by turn.
use Rattle.std.proofs.Common.{◌≡◌, ℕ, zero, suc, ◌+◌, ◌<◌, List, [], ◌∷◌, ◌++◌, length, take, get_or, append_assoc, append-nil, arith, refl, sym, ap, ◌∙◌}

pub grown_two : {A : Type 0} (o p q a b w : List A) → p ≡ o ++ a → q ≡ p ++ b → w ≡ a ++ b → q ≡ o ++ w
grown_two o p q a b w e f g = f ∙ (ap (λ x. x ++ b) e ∙ (append_assoc o a b ∙ ap (λ x. o ++ x) (sym g)))

pub grown_three : {A : Type 0} (o p q r a b c w : List A) → p ≡ o ++ a → q ≡ p ++ b → r ≡ q ++ c → w ≡ a ++ (b ++ c) → r ≡ o ++ w
grown_three o p q r a b c w e f g h =
    grown_two o p r a (b ++ c) w e (grown_two p q r b c (b ++ c) f g refl) h

pub grown_four : {A : Type 0} (o p q r s a b c d w : List A) → p ≡ o ++ a → q ≡ p ++ b → r ≡ q ++ c → s ≡ r ++ d → w ≡ a ++ (b ++ (c ++ d)) → s ≡ o ++ w
grown_four o p q r s a b c d w e f g h k =
    grown_two o p s a (b ++ (c ++ d)) w e (grown_three p q r s b c d (b ++ (c ++ d)) f g h refl) k

-- all is what one gives for the elements of two lists of one length, place by place
pub record AreBoth {W X Y : Type 0} (one : W → X → List Y) (all : List W → List X → List Y) : Type 0 where
  pub at_nothing : all [] [] ≡ []
  pub at_more : (w : W) (ws : List W) (x : X) (xs : List X) → all (w ∷ ws) (x ∷ xs) ≡ one w x ++ all ws xs

both_more : {W X Y : Type 0} {one : W → X → List Y} {all : List W → List X → List Y} → AreBoth one all → (ws : List W) (xs : List X) (i : ℕ) (v : W) (d : X) → length ws ≡ length xs → i < length xs → all (take (i + 1) ws) (take (i + 1) xs) ≡ all (take i ws) (take i xs) ++ one (get_or ws i v) (get_or xs i d)
both_more e ws [] i v d same h = absurd (omega (arith, h))
both_more e [] (x ∷ xs) i v d same h = absurd (omega (arith, same))
both_more {W} {X} {Y} {one} {all} e (w ∷ ws) (x ∷ xs) zero v d same h =
    e.at_more w [] x [] ∙ ap (λ y. one w x ++ y) e.at_nothing ∙ append-nil (one w x) ∙ sym (ap (λ y. y ++ one w x) e.at_nothing)
both_more {W} {X} {Y} {one} {all} e (w ∷ ws) (x ∷ xs) (suc i) v d same h =
    let k : suc i + 1 ≡ suc (i + 1) = omega arith in
    let s : length ws ≡ length xs = omega (arith, same) in
    ap (λ (k : ℕ). all (take k (w ∷ ws)) (take k (x ∷ xs))) k ∙ e.at_more w (take (i + 1) ws) x (take (i + 1) xs) ∙ ap (λ y. one w x ++ y) (both_more e ws xs i v d s (omega (arith, h))) ∙ sym (append_assoc (one w x) (all (take i ws) (take i xs)) (one (get_or ws i v) (get_or xs i d))) ∙ sym (ap (λ y. y ++ one (get_or ws i v) (get_or xs i d)) (e.at_more w (take i ws) x (take i xs)))

pub both_turn : {W X Y : Type 0} {one : W → X → List Y} {all : List W → List X → List Y} → AreBoth one all → (ws : List W) (xs : List X) (i : ℕ) (w : W) (x : X) (start out new : List Y) → length ws ≡ length xs → i < length xs → w ≡ get_or ws i w → x ≡ get_or xs i x → out ≡ start ++ all (take i ws) (take i xs) → new ≡ out ++ one w x → new ≡ start ++ all (take (i + 1) ws) (take (i + 1) xs)
both_turn {W} {X} {Y} {one} {all} e ws xs i w x start out new same h v is p q =
    q ∙ ap (λ y. out ++ one y x) v ∙ ap (λ y. out ++ one (get_or ws i w) y) is ∙ ap (λ y. y ++ one (get_or ws i w) (get_or xs i x)) p ∙ append_assoc start (all (take i ws) (take i xs)) (one (get_or ws i w) (get_or xs i x)) ∙ ap (λ y. start ++ y) (sym (both_more e ws xs i w x same h))
