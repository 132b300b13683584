-- What is named without a production begins such a construct.
use Rattle.std.proofs.Common.{◌≡◌, ℕ, [], ◌∷◌, ◌++◌, length, reverse, drop, sym, ap, subst, ◌∙◌, true, ◌&&◌, not, codes, slice_get, ◌==◌}
use Rattle.std.specs.Str.{bytes_eq}
use Rattle.std.proofs.lemmas.Bool.{and_parts, not-true}
use Rattle.c_language.specs.Words.{Bytes}
use Rattle.c_language.specs.TokenForms.{Tokens, of_kind, name, mark}
use Rattle.c_language.specs.Sees.{sees, sees_second, is_keyword}
use Rattle.c_language.specs.LeftOut.{open_braces, begins_statement, is_inner_call, is_pointer_call, opens_cast, is_in_param, is_some_kind, is_inner_definition, is_assignment_sign, is_bump_sign, IsWithoutProduction}
use Rattle.c_language.specs.declared.token.Token.{Token}
use Rattle.c_language.specs.declared.token.TokenKind.{TokenKind}
use Rattle.c_language.specs.declared.token.TokenKind.TheVariants.{Name, Number, Character, Str, Mark, Include, Directive}
use Rattle.c_parse_left_out.specs.Naming.{names_operand, names_word, names_struct, names_operator, names_mark, names_by, names}
use Rattle.c_parse_left_out.specs.Places.{IsWithoutProductionAt}
use Rattle.c_parse_words.proofs.SeenTokens.{sees_is, by_seen, of_kind_is}
use Rattle.c_parse_left_out.proofs.TellingLaws.{by_if}
use Rattle.c_language.proofs.Lists.{same_bytes}
use Rattle.c_language.proofs.Tests.{by_or}

operand_is : (w : Bytes) (l : ℕ) (before behind : Tokens) → names_operand w before behind ≡ true → IsWithoutProduction before (name w l) behind
unfolding names_operand
operand_is w l before behind h =
    let parts = and_parts (not (is_keyword w)) _ h in
    by_or (sees Mark (codes ":") behind && _) _ parts.1
    (λ label.
    let a = and_parts (sees Mark (codes ":") behind) _ label in
    let b = and_parts (begins_statement before) _ a.1 in
    by_seen Mark (codes ":") behind a.0 (λ m rest e. subst (λ (ts : Tokens). IsWithoutProduction before (name w l) ts) (sym e) (IsWithoutProduction.label (not-true (is_keyword w) parts.0) b.0 b.1)))
    (λ call.
    let a = and_parts (sees Mark (codes "(") behind) _ call in
    by_seen Mark (codes "(") behind a.0 (λ m rest e. subst (λ (ts : Tokens). IsWithoutProduction before (name w l) ts) (sym e) (IsWithoutProduction.inner_call (not-true (is_keyword w) parts.0) (ap (is_inner_call before) (sym e) ∙ a.1))))

word_is : (w : Bytes) (l : ℕ) (before behind : Tokens) → names_word w before behind ≡ true → IsWithoutProduction before (name w l) behind
unfolding names_word
word_is w l before behind h = by_if (bytes_eq w (codes "break")) _ _ h
    (λ is h. subst (λ (v : Bytes). IsWithoutProduction before (name v l) behind) (sym (same_bytes w _ is)) (IsWithoutProduction.early_break (not-true _ h)))
    (λ _ h. by_if (bytes_eq w (codes "long")) _ _ h
    (λ is h. subst (λ (v : Bytes). IsWithoutProduction before (name v l) behind) (sym (same_bytes w _ is)) (IsWithoutProduction.second_long h))
    (λ _ h. by_if (bytes_eq w (codes "static")) _ _ h
    (λ is h. let parts = and_parts (not (open_braces before == 0)) _ h in subst (λ (v : Bytes). IsWithoutProduction before (name v l) behind) (sym (same_bytes w _ is)) (IsWithoutProduction.inner_static (not-true _ parts.0) (not-true _ parts.1)))
    (λ _ h. by_if (bytes_eq w (codes "sizeof")) _ _ h
    (λ is h. subst (λ (v : Bytes). IsWithoutProduction before (name v l) behind) (sym (same_bytes w _ is)) (IsWithoutProduction.other_size (not-true _ h)))
    (λ _ h. by_if (bytes_eq w (codes "void")) _ _ h
    (λ is h. subst (λ (v : Bytes). IsWithoutProduction before (name v l) behind) (sym (same_bytes w _ is)) (IsWithoutProduction.other_void (not-true _ h)))
    (λ _ h. by_if (bytes_eq w (codes "for")) _ _ h
    (λ is h. subst (λ (v : Bytes). IsWithoutProduction before (name v l) behind) (sym (same_bytes w _ is)) (IsWithoutProduction.endless_for h))
    (λ _ h. operand_is w l before behind h))))))

by_tag : {G : Type 0} (before : Tokens) → is_some_kind Name (slice_get before 0) ≡ true → sees_second Name (codes "struct") before ≡ true
    → ((w : Bytes) (m k : ℕ) (rest : Tokens) → before ≡ name w m ∷ name (codes "struct") k ∷ rest → G) → G
unfolding sees_second sees
by_tag [] h k go = absurd cc
by_tag (t ∷ []) h k go = absurd cc
by_tag (t ∷ u ∷ rest) h k go =
    let s = sees_is Name (codes "struct") (u ∷ rest) k in
    go t.text t.line s.0 s.1 (ap (λ x. x ∷ u ∷ rest) (sym (of_kind_is Name t h)) ∙ ap (λ r. name t.text t.line ∷ r) s.2)

struct_is : (l : ℕ) (before behind : Tokens) → names_struct before behind ≡ true → IsWithoutProduction before (mark (codes "{") l) behind
unfolding names_struct
struct_is l before behind h = by_or (sees Name (codes "struct") before) _ h
    (λ is. by_seen Name (codes "struct") before is (λ k rest e. subst (λ (b : Tokens). IsWithoutProduction b (mark (codes "{") l) behind) (sym e) IsWithoutProduction.inner_untagged_struct))
    (λ h.
    let a = and_parts (is_some_kind Name (slice_get before 0)) _ h in
    let b = and_parts (sees_second Name (codes "struct") before) _ a.1 in
    by_tag before a.0 b.0 (λ w m k rest e. subst (λ (b : Tokens). IsWithoutProduction b (mark (codes "{") l) behind) (sym e)
    (IsWithoutProduction.inner_struct (ap (λ x. is_inner_definition (drop 2 x) behind) (sym e) ∙ b.1))))

operator_is : (w : Bytes) (l : ℕ) (before behind : Tokens) → names_operator w before ≡ true → IsWithoutProduction before (mark w l) behind
unfolding names_operator
operator_is w l before behind h = by_if (is_assignment_sign w) _ _ h
    (λ is h. IsWithoutProduction.inner_assignment is h)
    (λ _ h. by_if (is_bump_sign w) _ _ h (λ is h. IsWithoutProduction.inner_bump is h) (λ _ h. absurd cc))

mark_is : (w : Bytes) (l : ℕ) (before behind : Tokens) → names_mark w before behind ≡ true → IsWithoutProduction before (mark w l) behind
unfolding names_mark
mark_is w l before behind h = by_if (bytes_eq w (codes "(")) _ _ h
    (λ is h. subst (λ (v : Bytes). IsWithoutProduction before (mark v l) behind) (sym (same_bytes w _ is)) (by_or (is_pointer_call before) _ h (λ p. IsWithoutProduction.pointer_call p) (λ d. IsWithoutProduction.paren_declarator d)))
    (λ _ h. by_if (bytes_eq w (codes ",")) _ _ h
    (λ is h. subst (λ (v : Bytes). IsWithoutProduction before (mark v l) behind) (sym (same_bytes w _ is)) (IsWithoutProduction.comma h))
    (λ _ h. by_if (bytes_eq w (codes ":")) _ _ h
    (λ is h. subst (λ (v : Bytes). IsWithoutProduction before (mark v l) behind) (sym (same_bytes w _ is)) (IsWithoutProduction.bit_field h))
    (λ _ h. by_if (bytes_eq w (codes "*")) _ _ h
    (λ is h. let parts = and_parts (opens_cast before) _ h in subst (λ (v : Bytes). IsWithoutProduction before (mark v l) behind) (sym (same_bytes w _ is)) (IsWithoutProduction.pointer_cast parts.0 parts.1))
    (λ _ h. by_if (bytes_eq w (codes "[")) _ _ h
    (λ is h.
    let parts = and_parts (sees Mark (codes "]") before) _ h in
    subst (λ (v : Bytes). IsWithoutProduction before (mark v l) behind) (sym (same_bytes w _ is))
    (by_seen Mark (codes "]") before parts.0 (λ m rest e. subst (λ (b : Tokens). IsWithoutProduction b (mark (codes "[") l) behind) (sym e) (IsWithoutProduction.second_length (ap is_in_param (sym e) ∙ parts.1)))))
    (λ _ h. by_if (bytes_eq w (codes "{")) _ _ h
    (λ is h. subst (λ (v : Bytes). IsWithoutProduction before (mark v l) behind) (sym (same_bytes w _ is)) (struct_is l before behind h))
    (λ _ h. operator_is w l before behind h))))))

kind_is_named : (kind : TokenKind) (w : Bytes) (l : ℕ) (before behind : Tokens) → names_by kind w before behind ≡ true → IsWithoutProduction before (of_kind kind w l) behind
kind_is_named Name w l before behind h = word_is w l before behind h
kind_is_named Mark w l before behind h = mark_is w l before behind h
kind_is_named Number w l before behind h = absurd cc
kind_is_named Character w l before behind h = absurd cc
kind_is_named Str w l before behind h = absurd cc
kind_is_named Include w l before behind h = absurd cc
kind_is_named Directive w l before behind h = absurd cc

-- What is named at a place begins there.
pub named_at : (ts before behind : Tokens) (t : Token) (at : ℕ) → ts ≡ before ++ t ∷ behind → at ≡ length before → names (reverse before) t behind ≡ true → IsWithoutProductionAt ts at
named_at ts before behind t at split place h = record { front = before; token = t; behind = behind; split = split; place = place; is = kind_is_named t.kind t.text t.line (reverse before) behind h }
