-- Where reading a type, a declarator or parameters stops since it nests too deep, more tokens than the limit can nest.
use Rattle.std.proofs.Common.{◌≡◌, ℕ, zero, suc, ◌+◌, ◌≤◌, ◌<◌, List, [], ◌∷◌, ◌++◌, length, drop, ap, arith, Option, Err, codes, nat_le, nat_lt}
use Rattle.std.proofs.lemmas.Bool.{leb-false, ltb-false}
use Rattle.c_tree.specs.declared.raw.expr.RawLength.TheVariants.{Written, Listed}
use Rattle.c_tree.specs.declared.raw.expr.RawType.{RawType}
use Rattle.c_tree.specs.declared.raw.expr.RawType.TheVariants as type
use Rattle.c_tree.specs.declared.raw.expr.RawVar.{RawVar}
use Rattle.c_tree.specs.declared.raw.program.RawParam.{RawParam}
use Rattle.c_tree.specs.declared.raw.statement.RawTypeName.{RawTypeName}
use Rattle.c_language.specs.Words.{Bytes}
use Rattle.c_language.specs.TokenForms.{Tokens, name, mark, line_of}
use Rattle.c_language.specs.Sees.{sees, sees_name}
use Rattle.c_language.specs.TypeGrammar.{IsBase, structure, integer, IsStars, star, IsTypeName, pointed, NamesType, starred, IsLengths, IsOuterLengths, IsDeclarator, IsParamName, IsParam, IsMoreParams, IsParams}
use Rattle.c_language.specs.Nesting.{type_nesting, nesting_tokens}
use Rattle.c_language.specs.declared.token.TokenKind.TheVariants.{Name, Mark}
use Rattle.c_language.proofs.NestingLemmas.{type_nesting-PointerTo, type_nesting-Array}
use Rattle.c_parse_expr.specs.Outcome.{Deep, expect, read_name}
use Rattle.c_parse_expr.specs.IntReading.{int_type_name}
use Rattle.c_parse_expr.specs.ExprReading.{nested}
use Rattle.c_parse_expr.specs.TypeReading.{base, stars, fitting, with_length, lengths, sees_empty_length, empty_length, outer_lengths, declarator, param_name, param_length, param_end, param, params_from, params}
use Rattle.c_parse_words.proofs.SeenTokens.{by_seen}
use Rattle.c_parse_expr.proofs.Tests.{by_fault, by_expect, by_name, expect_fault, name_fault}
use Rattle.c_parse_expr.proofs.IntLaws.{int_type_fault}
use Rattle.c_parse_expr.proofs.ExprSound.{nested_sound}
use Rattle.c_parse_expr.proofs.ExprDeep.{int_type_tokens, expr_tokens, nested_expr_deep}
use Rattle.c_parse_expr.proofs.TypeLaws.{base_flat, stars_high}
use Rattle.c_parse_expr.proofs.TypeSound.{base_sound, stars_sound, by_empty, param_name_sound, param_sound}
use Rattle.c_language.proofs.Tests.{by_test}

-- ---- each node has a token of its own

pub base_tokens : {ts rest : Tokens} {a : RawType} → IsBase ts a rest → nesting_tokens rest ≤ nesting_tokens ts
base_tokens (structure free) = omega arith
base_tokens (integer h) = int_type_tokens h

pub stars_tokens : {ts rest : Tokens} {a b : RawType} → IsStars ts a b rest → type_nesting b + nesting_tokens rest ≡ type_nesting a + nesting_tokens ts
stars_tokens (IsStars.done h) = omega arith
stars_tokens (star {a} h) = let e = stars_tokens h in let f = type_nesting-PointerTo a in omega (arith, e, f)

pub type_name_tokens : {ts rest : Tokens} {a : RawType} → IsTypeName ts a rest → type_nesting a + nesting_tokens rest ≤ nesting_tokens ts
type_name_tokens (pointed h k) = let e = base_tokens h in let f = stars_tokens k in let g = base_flat h in omega (arith, e, f, g)

pub named_tokens : {ts rest : Tokens} {a : RawTypeName} → NamesType ts a rest → nesting_tokens rest ≤ nesting_tokens ts
named_tokens (starred h k) = let e = base_tokens h in let f = stars_tokens k in let g = stars_high k in omega (arith, e, f, g)

pub lengths_tokens : {ts rest : Tokens} {a b : RawType} → IsLengths ts a b rest → type_nesting b + nesting_tokens rest ≤ type_nesting a + nesting_tokens ts
lengths_tokens (IsLengths.done h) = omega arith
lengths_tokens (IsLengths.length {n} {b} h k) = let e = expr_tokens h in let f = lengths_tokens k in let g = type_nesting-Array b (Written n) in omega (arith, e, f, g)

pub outer_tokens : {ts rest : Tokens} {a b : RawType} → IsOuterLengths ts a b rest → type_nesting b + nesting_tokens rest ≤ type_nesting a + nesting_tokens ts
outer_tokens (IsOuterLengths.written h) = lengths_tokens h
outer_tokens (IsOuterLengths.empty {b} h) = let f = lengths_tokens h in let g = type_nesting-Array b Listed in omega (arith, f, g)

pub declarator_tokens : {ts rest : Tokens} {a : RawType} {v : RawVar} → IsDeclarator ts a v rest → type_nesting v.shape + nesting_tokens rest ≤ type_nesting a + nesting_tokens ts
declarator_tokens (IsDeclarator.named h free k) = let e = stars_tokens h in let f = outer_tokens k in omega (arith, e, f)

param_name_tokens : {ts rest : Tokens} {called : Option Bytes} → IsParamName ts called rest → nesting_tokens rest ≤ nesting_tokens ts
param_name_tokens (IsParamName.named free) = omega arith
param_name_tokens (IsParamName.unnamed h) = omega arith

pub param_tokens : {ts rest : Tokens} {p : RawParam} → IsParam ts p rest → nesting_tokens rest ≤ nesting_tokens ts
param_tokens (IsParam.plain h k free) = let e = type_name_tokens h in let f = param_name_tokens k in omega (arith, e, f)
param_tokens (IsParam.unsized h k) = let e = type_name_tokens h in let f = param_name_tokens k in omega (arith, e, f)
param_tokens (IsParam.sized h k j) = let e = type_name_tokens h in let f = param_name_tokens k in let g = expr_tokens j in omega (arith, e, f, g)

more_tokens : {ts rest : Tokens} {ps : List RawParam} → IsMoreParams ts ps rest → nesting_tokens rest ≤ nesting_tokens ts
more_tokens IsMoreParams.closed = omega arith
more_tokens (IsMoreParams.more h k) = let e = param_tokens h in let f = more_tokens k in omega (arith, e, f)

pub params_tokens : {ts rest : Tokens} {ps : List RawParam} → IsParams ts ps rest → nesting_tokens rest ≤ nesting_tokens ts
params_tokens IsParams.empty = omega arith
params_tokens IsParams.nothing = omega arith
params_tokens (IsParams.some h k) = let e = param_tokens h in let f = more_tokens k in omega (arith, e, f)

-- ---- reading that stops too deep

pub base_fault : {G : Type 0} (ts : Tokens) → base ts ≡ Err Deep → G
unfolding base
base_fault ts h =
    by_test (sees Name (codes "struct") ts) h
    (λ _ h. by_fault (read_name (drop 1 ts)) _ h (name_fault (drop 1 ts)) (λ _ _ _ h. absurd cc))
    (λ _ h. by_fault (int_type_name ts) _ h (int_type_fault ts) (λ _ _ _ h. absurd cc))

pub stars_deep : (limit : ℕ) (a : RawType) (ts : Tokens) → stars limit a ts ≡ Err Deep → limit < nesting_tokens ts
unfolding stars
stars_deep zero a ts h =
    by_test (sees Mark (codes "*") ts) h
    (λ is h. by_seen Mark (codes "*") ts is (λ l mid at. let c : nesting_tokens ts ≡ 1 + nesting_tokens mid = ap nesting_tokens at in omega (arith, c)))
    (λ _ h. absurd cc)
stars_deep (suc limit) a ts h =
    by_test (sees Mark (codes "*") ts) h
    (λ is h. by_seen Mark (codes "*") ts is (λ l mid at.
    let e : drop 1 ts ≡ mid = ap (drop 1) at in
    let c : nesting_tokens ts ≡ 1 + nesting_tokens mid = ap nesting_tokens at in
    let d = stars_deep limit (type.PointerTo a) mid (rw e at h) in
    omega (arith, c, d)))
    (λ _ h. absurd cc)

fitting_deep : (depth : ℕ) (a : RawType) (ts : Tokens) → fitting depth a ts ≡ Err Deep → depth < type_nesting a
fitting_deep depth a ts h = by_test (nat_le (type_nesting a) depth) h (λ _ h. absurd cc) (λ isnt _. leb-false (type_nesting a) depth isnt)

pub lengths_deep : (depth : ℕ) (a : RawType) (ts : Tokens) → lengths depth a ts ≡ Err Deep → depth < type_nesting a + nesting_tokens ts
unfolding lengths
lengths_deep zero a ts h =
    by_test (sees Mark (codes "[") ts) h
    (λ is h. by_seen Mark (codes "[") ts is (λ l mid at. let c : nesting_tokens ts ≡ 1 + nesting_tokens mid = ap nesting_tokens at in omega (arith, c)))
    (λ _ h. let d = fitting_deep zero a ts h in omega (arith, d))
lengths_deep (suc depth) a ts h =
    by_test (sees Mark (codes "[") ts) h
    (λ is h. by_seen Mark (codes "[") ts is (λ l inside at.
    let e : drop 1 ts ≡ inside = ap (drop 1) at in
    let c : nesting_tokens ts ≡ 1 + nesting_tokens inside = ap nesting_tokens at in
    let h2 : with_length (suc depth) (lengths depth a) inside ≡ Err Deep = rw e at h in
    by_fault (nested (suc depth) 1 inside) _ h2
    (λ h2. let d = nested_expr_deep (suc depth) 1 (omega arith) (omega arith) inside h2 in omega (arith, c, d))
    (λ n mid went h2. by_fault (expect (codes "]") mid) _ h2 (expect_fault (codes "]") mid)
    (λ u after closed h2. by_expect (codes "]") mid after u closed (λ m at2. by_fault (lengths depth a after) _ h2
    (λ h2.
    let d = lengths_deep depth a after h2 in
    let f = expr_tokens (nested_sound (suc depth) 1 inside n mid (omega arith) (omega arith) went).is in
    let g : nesting_tokens mid ≡ nesting_tokens (mark (codes "]") m ∷ after) = ap nesting_tokens at2 in
    omega (arith, c, d, f, g))
    (λ _ _ _ h2. absurd cc))))))
    (λ _ h. let d = fitting_deep (suc depth) a ts h in omega (arith, d))

empty_deep : (depth : ℕ) (a : RawType) (ts : Tokens) → empty_length depth a ts ≡ Err Deep → depth < type_nesting a + (1 + nesting_tokens ts)
unfolding empty_length
empty_deep zero a ts h = omega arith
empty_deep (suc depth) a ts h = by_fault (lengths depth a ts) _ h (λ h. let d = lengths_deep depth a ts h in omega (arith, d)) (λ _ _ _ h. absurd cc)

pub outer_deep : (depth : ℕ) (a : RawType) (ts : Tokens) → outer_lengths depth a ts ≡ Err Deep → depth < type_nesting a + nesting_tokens ts
unfolding outer_lengths
outer_deep depth a ts h =
    by_test (sees_empty_length ts) h
    (λ is h. by_empty ts is (λ l m inside at.
    let e : drop 1 (drop 1 ts) ≡ inside = ap (λ (u : Tokens). drop 1 (drop 1 u)) at in
    let c : nesting_tokens ts ≡ 1 + (0 + nesting_tokens inside) = ap nesting_tokens at in
    let d = empty_deep depth a inside (rw e at h) in
    omega (arith, c, d)))
    (λ _ h. lengths_deep depth a ts h)

pub declarator_deep : (depth : ℕ) (a : RawType) (ts : Tokens) → type_nesting a ≡ 0 → declarator depth a ts ≡ Err Deep → depth < nesting_tokens ts
unfolding declarator
declarator_deep depth a ts flat h =
    by_fault (stars depth a ts) _ h (stars_deep depth a ts)
    (λ b mid went h. by_fault (read_name mid) _ h (name_fault mid)
    (λ text after called h. by_name mid after text called (λ l free at. by_fault (outer_lengths depth b after) _ h
    (λ h.
    let c = stars_tokens (stars_sound depth ts mid a b went).is in
    let d = outer_deep depth b after h in
    let e : nesting_tokens mid ≡ nesting_tokens (name text l ∷ after) = ap nesting_tokens at in
    omega (arith, c, d, e, flat))
    (λ _ _ _ h. absurd cc))))

param_name_fault : {G : Type 0} (ts : Tokens) → param_name ts ≡ Err Deep → G
unfolding param_name
param_name_fault ts h =
    by_test (sees_name ts) h (λ _ h. by_fault (read_name ts) _ h (name_fault ts) (λ _ _ _ h. absurd cc)) (λ _ h. absurd cc)

param_length_deep : (depth : ℕ) (ts : Tokens) → param_length depth ts ≡ Err Deep → depth ≤ nesting_tokens ts
unfolding param_length
param_length_deep depth ts h =
    by_test (sees Mark (codes "]") ts) h (λ _ h. absurd cc)
    (λ _ h. by_fault (nested depth 1 ts) _ h (nested_expr_deep depth 1 (omega arith) (omega arith) ts)
    (λ n mid _ h. by_fault (expect (codes "]") mid) _ h (expect_fault (codes "]") mid) (λ _ _ _ h. absurd cc)))

param_end_deep : (depth line : ℕ) (a : RawType) (called : Option Bytes) (ts : Tokens) → param_end depth line a called ts ≡ Err Deep → depth < type_nesting a + nesting_tokens ts
unfolding param_end
param_end_deep depth line a called ts h =
    by_test (sees Mark (codes "[") ts) h
    (λ is h. by_seen Mark (codes "[") ts is (λ l inside at.
    let e : drop 1 ts ≡ inside = ap (drop 1) at in
    let c : nesting_tokens ts ≡ 1 + nesting_tokens inside = ap nesting_tokens at in
    by_test (nat_lt (type_nesting a) depth) h
    (λ _ h. by_fault (param_length depth (drop 1 ts)) _ h
    (λ h. let d = param_length_deep depth inside (rw e at h) in omega (arith, c, d))
    (λ _ _ _ h. absurd cc))
    (λ isnt _. let d = ltb-false (type_nesting a) depth isnt in omega (arith, c, d))))
    (λ _ h. absurd cc)

pub param_deep : (depth : ℕ) (ts : Tokens) → param depth ts ≡ Err Deep → depth < nesting_tokens ts
unfolding param
param_deep depth ts h =
    by_fault (base ts) _ h (base_fault ts)
    (λ b m1 went h.
    let base_is = base_sound ts m1 b went in
    let flat = base_flat base_is in
    let c = base_tokens base_is in
    by_fault (stars depth b m1) _ h
    (λ h. let d = stars_deep depth b m1 h in omega (arith, c, d))
    (λ a mid went2 h. by_fault (param_name mid) _ h (param_name_fault mid)
    (λ called after went3 h.
    let d = stars_tokens (stars_sound depth m1 mid b a went2).is in
    let e = param_name_tokens (param_name_sound mid after called went3) in
    let f = param_end_deep depth (line_of ts) a called after h in
    omega (arith, c, d, e, f, flat))))

more_deep : (depth turns : ℕ) (found : List RawParam) (ts : Tokens) → params_from depth turns found ts ≡ Err Deep → depth < nesting_tokens ts
unfolding params_from
more_deep depth zero found ts h = absurd cc
more_deep depth (suc turns) found ts h =
    by_test (sees Mark (codes ")") ts) h
    (λ _ h. absurd cc)
    (λ _ h. by_fault (expect (codes ",") ts) _ h (expect_fault (codes ",") ts)
    (λ u after parted h. by_expect (codes ",") ts after u parted (λ l at.
    let c : nesting_tokens ts ≡ nesting_tokens (mark (codes ",") l ∷ after) = ap nesting_tokens at in
    by_fault (param depth after) _ h
    (λ h. let d = param_deep depth after h in omega (arith, c, d))
    (λ p mid went h.
    let d = more_deep depth turns (found ++ p ∷ []) mid h in
    let e = param_tokens (param_sound depth after mid p went).is in
    omega (arith, c, d, e)))))

pub params_deep : (depth : ℕ) (ts : Tokens) → params depth ts ≡ Err Deep → depth < nesting_tokens ts
unfolding params
params_deep depth ts h =
    by_test (sees Mark (codes ")") ts) h
    (λ _ h. absurd cc)
    (λ _ h. by_test (sees Name (codes "void") ts) h
    (λ _ h. by_fault (expect (codes ")") (drop 1 ts)) _ h (expect_fault (codes ")") (drop 1 ts)) (λ _ _ _ h. absurd cc))
    (λ _ h. by_fault (param depth ts) _ h (param_deep depth ts)
    (λ p mid went h.
    let d = more_deep depth (length mid) (p ∷ []) mid h in
    let e = param_tokens (param_sound depth ts mid p went).is in
    omega (arith, d, e))))
