-- Indentations and their levels.
use Rattle.std.proofs.Common.{◌≡◌, ℕ, zero, suc, ◌*◌, ◌-◌, ◌<◌, ◌++◌, length, take, codes, arith, refl, sym, ap, ◌∙◌}
use Rattle.c_language.specs.Words.{Bytes}
use Rattle.c_language.specs.Layout.{indent}
use Rattle.c_print.specs.Levels.{level_of}

-- an indentation has its level
pub level_of-indent : (n : ℕ) → level_of (indent n) ≡ n
level_of-indent zero = refl
level_of-indent (suc n) = ap suc (level_of-indent n)

-- four spaces more are a level more
pub indent-suc : (n : ℕ) → indent n ++ codes "    " ≡ indent (suc n)
indent-suc zero = refl
indent-suc (suc n) = ap (λ (x : Bytes). codes "    " ++ x) (indent-suc n)

-- four spaces for each level
pub length-indent : (n : ℕ) → length (indent n) ≡ 4 * n
length-indent zero = refl
length-indent (suc n) = omega (arith, length-indent n)

take-indent : (n : ℕ) → take (4 * n) (indent (suc n)) ≡ indent n
take-indent zero = refl
take-indent (suc n) =
    let e : 4 * suc n ≡ suc (suc (suc (suc (4 * n)))) = omega arith in
    ap (λ (k : ℕ). take k (indent (suc (suc n)))) e ∙ ap (λ (x : Bytes). codes "    " ++ x) (take-indent n)

-- four bytes less than the indentation at a level are the indentation at the level before it
pub shortened : (m : ℕ) (x y : Bytes) (l : ℕ) → 0 < m → x ≡ indent m → l ≡ length x → y ≡ take (l - 4) x → (m ≡ suc (level_of y)) × (y ≡ indent (level_of y))
shortened zero x y l h p is q = absurd (omega arith)
shortened (suc n) x y l h p is q =
    let k : l - 4 ≡ 4 * n = omega (arith, length-indent (suc n), ap length p) in
    let e : y ≡ indent n = q ∙ ap (λ (k : ℕ). take k x) k ∙ ap (λ (z : Bytes). take (4 * n) z) p ∙ take-indent n in
    let m : level_of y ≡ n = ap level_of e ∙ level_of-indent n in
    (sym (ap suc m), e ∙ sym (ap indent m))

pub ruleset levels_of = (level_of-indent, indent-suc, length-indent)
