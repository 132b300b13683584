-- The lines of statements: how they are joined.
use Rattle.std.proofs.Common.{◌≡◌, ℕ, zero, suc, [], ◌∷◌, ◌++◌, append_assoc, refl, ap, ◌∙◌, false, codes}
use Rattle.c_language.specs.Words.{Bytes}
use Rattle.c_language.specs.Layout.{indent, Laid, braced}
use Rattle.c_language.specs.Layout.{line as whole_line}
use Rattle.c_language.specs.TokenForms.{Tokens, mark}
use Rattle.c_language.specs.Sees.{sees}
use Rattle.c_language.specs.Tokens.{IsTokens}
use Rattle.c_language.specs.declared.token.TokenKind.TheVariants.{Mark}
use Rattle.c_language.specs.declared.token.Before.TheVariants.{Blank}
use Rattle.c_text_layout.proofs.TokenPrint.{print_blank}

-- ---- lines

pub print_indent : {line : ℕ} {rest : Bytes} {ts : Tokens} (n : ℕ) → IsTokens Blank line rest ts → IsTokens Blank line (indent n ++ rest) ts
print_indent zero h = h
print_indent (suc n) h = print_blank (print_blank (print_blank (print_blank (print_indent n h))))

pub line_join : (n : ℕ) (w tl : Bytes) → whole_line n w ++ tl ≡ indent n ++ (w ++ (10 ∷ tl))
line_join n w tl = append_assoc (indent n) (w ++ (10 ∷ [])) tl ∙ ap (λ (z : Bytes). indent n ++ z) (append_assoc w (10 ∷ []) tl)

pub braced_join : (head body tail : Bytes) (n : ℕ) (tl : Bytes) → braced head body tail n ++ tl ≡ indent n ++ (head ++ (10 ∷ (body ++ (indent n ++ (tail ++ (10 ∷ tl))))))
braced_join head body tail n tl =
    append_assoc (whole_line n head) (body ++ whole_line n tail) tl ∙ line_join n head ((body ++ whole_line n tail) ++ tl)
    ∙ ap (λ (z : Bytes). indent n ++ (head ++ (10 ∷ z))) (append_assoc body (whole_line n tail) tl ∙ ap (λ (z : Bytes). body ++ z) (line_join n tail tl))

pub ended_join : (n : ℕ) (w tl : Bytes) → whole_line n (w ++ codes ";") ++ tl ≡ indent n ++ (w ++ (59 ∷ 10 ∷ tl))
ended_join n w tl = line_join n (w ++ codes ";") tl ∙ ap (λ (z : Bytes). indent n ++ z) (append_assoc w (codes ";") (10 ∷ tl))

-- a semicolon is no bracket
pub semicolon_no_length : (l : ℕ) (ts : Tokens) → sees Mark (codes "[") (mark (codes ";") l ∷ ts) ≡ false
unfolding sees
semicolon_no_length l ts = refl

-- ---- labels

pub label_join : (w tl : Bytes) → (codes "case " ++ (w ++ codes ":")) ++ (10 ∷ tl) ≡ codes "case" ++ (32 ∷ (w ++ (58 ∷ 10 ∷ tl)))
label_join w tl = ap (λ (z : Bytes). codes "case " ++ z) (append_assoc w (codes ":") (10 ∷ tl))

-- ---- statements

pub if_join : (n : ℕ) (w body tl others : Bytes) → (whole_line n (codes "if (" ++ (w ++ codes ") {")) ++ (body ++ others)) ++ tl ≡ indent n ++ (codes "if" ++ (32 ∷ 40 ∷ (w ++ (41 ∷ 32 ∷ 123 ∷ 10 ∷ (body ++ (others ++ tl))))))
if_join n w body tl others =
    append_assoc (whole_line n (codes "if (" ++ (w ++ codes ") {"))) (body ++ others) tl ∙ line_join n (codes "if (" ++ (w ++ codes ") {")) ((body ++ others) ++ tl)
    ∙ ap (λ (z : Bytes). indent n ++ (codes "if (" ++ z)) (append_assoc w (codes ") {") (10 ∷ ((body ++ others) ++ tl)) ∙ ap (λ (z : Bytes). w ++ (41 ∷ 32 ∷ 123 ∷ 10 ∷ z)) (append_assoc body others tl))

pub while_join : (n : ℕ) (w body tl : Bytes) → braced (codes "while (" ++ (w ++ codes ") {")) body (codes "}") n ++ tl ≡ indent n ++ (codes "while" ++ (32 ∷ 40 ∷ (w ++ (41 ∷ 32 ∷ 123 ∷ 10 ∷ (body ++ (indent n ++ (125 ∷ 10 ∷ tl)))))))
while_join n w body tl = braced_join (codes "while (" ++ (w ++ codes ") {")) body (codes "}") n tl ∙ ap (λ (z : Bytes). indent n ++ (codes "while (" ++ z)) (append_assoc w (codes ") {") _)

pub switch_join : (n : ℕ) (w body tl : Bytes) → braced (codes "switch (" ++ (w ++ codes ") {")) body (codes "}") n ++ tl ≡ indent n ++ (codes "switch" ++ (32 ∷ 40 ∷ (w ++ (41 ∷ 32 ∷ 123 ∷ 10 ∷ (body ++ (indent n ++ (125 ∷ 10 ∷ tl)))))))
switch_join n w body tl = braced_join (codes "switch (" ++ (w ++ codes ") {")) body (codes "}") n tl ∙ ap (λ (z : Bytes). indent n ++ (codes "switch (" ++ z)) (append_assoc w (codes ") {") _)

pub do_join : (n : ℕ) (w body tl : Bytes) → braced (codes "do {") body (codes "} while (" ++ (w ++ codes ");")) n ++ tl ≡ indent n ++ (codes "do" ++ (32 ∷ 123 ∷ 10 ∷ (body ++ (indent n ++ (125 ∷ 32 ∷ (codes "while" ++ (32 ∷ 40 ∷ (w ++ (41 ∷ 59 ∷ 10 ∷ tl)))))))))
do_join n w body tl = braced_join (codes "do {") body (codes "} while (" ++ (w ++ codes ");")) n tl ∙ ap (λ (z : Bytes). indent n ++ (codes "do {" ++ (10 ∷ (body ++ (indent n ++ (codes "} while (" ++ z)))))) (append_assoc w (codes ");") (10 ∷ tl))

pub for_join : (n : ℕ) (i w step body tl : Bytes) → braced (codes "for (" ++ (i ++ (codes "; " ++ (w ++ (codes ";" ++ (step ++ codes ") {")))))) body (codes "}") n ++ tl
    ≡ indent n ++ (codes "for" ++ (32 ∷ 40 ∷ (i ++ (59 ∷ 32 ∷ (w ++ (59 ∷ (step ++ (41 ∷ 32 ∷ 123 ∷ 10 ∷ (body ++ (indent n ++ (125 ∷ 10 ∷ tl)))))))))))
for_join n i w step body tl =
    let rest : Bytes = 10 ∷ (body ++ (indent n ++ (125 ∷ 10 ∷ tl))) in
    braced_join (codes "for (" ++ (i ++ (codes "; " ++ (w ++ (codes ";" ++ (step ++ codes ") {")))))) body (codes "}") n tl
    ∙ ap (λ (z : Bytes). indent n ++ (codes "for (" ++ z)) (append_assoc i (codes "; " ++ (w ++ (codes ";" ++ (step ++ codes ") {")))) rest
    ∙ ap (λ (z : Bytes). i ++ (59 ∷ 32 ∷ z)) (append_assoc w (codes ";" ++ (step ++ codes ") {")) rest ∙ ap (λ (z : Bytes). w ++ (59 ∷ z)) (append_assoc step (codes ") {") rest)))

pub return_join : (n : ℕ) (w tl : Bytes) → whole_line n ((codes "return " ++ w) ++ codes ";") ++ tl ≡ indent n ++ (codes "return" ++ (32 ∷ (w ++ (59 ∷ 10 ∷ tl))))
return_join n w tl = ended_join n (codes "return " ++ w) tl

pub else_join : (n : ℕ) (body tl : Bytes) → ((whole_line n (codes "} else {") ++ body) ++ whole_line n (codes "}")) ++ tl ≡ indent n ++ (125 ∷ 32 ∷ (codes "else" ++ (32 ∷ 123 ∷ 10 ∷ (body ++ (indent n ++ (125 ∷ 10 ∷ tl))))))
else_join n body tl =
    append_assoc (whole_line n (codes "} else {") ++ body) (whole_line n (codes "}")) tl ∙ append_assoc (whole_line n (codes "} else {")) body (whole_line n (codes "}") ++ tl) ∙ line_join n (codes "} else {") (body ++ (whole_line n (codes "}") ++ tl))
    ∙ ap (λ (z : Bytes). indent n ++ (125 ∷ 32 ∷ (codes "else" ++ (32 ∷ 123 ∷ 10 ∷ (body ++ z))))) (line_join n (codes "}") tl)

-- the lines of an arm: labels, statements, break, and then the other arms
pub arm_join : (m : ℕ) (labels body arms tl : Bytes) → ((labels ++ (body ++ whole_line (suc m) (codes "break;"))) ++ arms) ++ tl ≡ labels ++ (body ++ (indent (suc m) ++ (codes "break" ++ (59 ∷ 10 ∷ (arms ++ tl)))))
arm_join m labels body arms tl =
    append_assoc (labels ++ (body ++ whole_line (suc m) (codes "break;"))) arms tl ∙ append_assoc labels (body ++ whole_line (suc m) (codes "break;")) (arms ++ tl)
    ∙ ap (λ (z : Bytes). labels ++ z) (append_assoc body (whole_line (suc m) (codes "break;")) (arms ++ tl) ∙ ap (λ (z : Bytes). body ++ z) (line_join (suc m) (codes "break;") (arms ++ tl)))

pub lines_as : {x y : Laid} (n : ℕ) (tl : Bytes) → x ≡ y → x.lines n ++ tl ≡ y.lines n ++ tl
lines_as n tl e = ap (λ (l : Laid). l.lines n ++ tl) e
