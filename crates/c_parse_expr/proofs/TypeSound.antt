-- What is read as a type, a declarator or parameters is one.
use Rattle.std.proofs.Common.{◌≡◌, ℕ, zero, suc, ◌+◌, ◌≤◌, ◌<◌, List, [], ◌∷◌, ◌++◌, length, drop, refl, sym, ap, subst, ◌∙◌, arith, true, false, Option, Some, Ok, codes, inl, inr, nat_le, nat_lt}
use Rattle.std.specs.Str.{bytes_eq}
use Rattle.std.proofs.lemmas.Bool.{cases_Bool, and_parts, leb-true, ltb-true}
use Rattle.std.proofs.lemmas.List.{append-nil}
use Rattle.c_tree.specs.declared.raw.expr.RawExpr.{RawExpr}
use Rattle.c_tree.specs.declared.raw.expr.RawLength.TheVariants.{Written, Listed}
use Rattle.c_tree.specs.declared.raw.expr.RawType.{RawType}
use Rattle.c_tree.specs.declared.raw.expr.RawType.TheVariants as type
use Rattle.c_tree.specs.declared.raw.expr.RawVar.{RawVar}
use Rattle.c_tree.specs.declared.raw.program.RawParam.{RawParam}
use Rattle.c_tree.specs.declared.raw.statement.RawTypeName.{RawTypeName}
use Rattle.c_language.specs.Words.{Bytes}
use Rattle.c_language.specs.TokenForms.{Tokens, name, mark, line_of}
use Rattle.c_language.specs.Sees.{sees, sees_second, sees_name, is_some_token, is_kind}
use Rattle.c_language.specs.ExprGrammar.{IsExpr}
use Rattle.c_language.specs.TypeGrammar.{IsBase, structure, integer, IsStars, star, IsTypeName, pointed, pointed_n, NamesType, starred, IsLengths, IsOuterLengths, IsDeclarator, IsParamName, IsParam, IsMoreParams, IsParams}
use Rattle.c_language.specs.Nesting.{type_nesting, param_nesting, params_nesting}
use Rattle.c_language.specs.declared.token.Token.{Token}
use Rattle.c_language.specs.declared.token.TokenKind.TheVariants.{Name, Mark}
use Rattle.c_language.proofs.NestingLemmas.{type_nesting-PointerTo, type_nesting-Array}
use Rattle.c_parse_expr.specs.Outcome.{expect, read_name}
use Rattle.c_parse_expr.specs.IntReading.{int_type_name}
use Rattle.c_parse_expr.specs.ExprReading.{nested}
use Rattle.c_parse_expr.specs.TypeReading.{base, stars, star_count, type_name, fitting, with_length, lengths, sees_empty_length, empty_length, outer_lengths, declarator, param_name, param_length, param_end, param, params_from, params}
use Rattle.c_parse_words.proofs.SeenTokens.{by_seen, of_kind_is}
use Rattle.c_parse_expr.proofs.Tests.{by_step, by_expect, by_name, ok_parts, with_parts}
use Rattle.c_parse_expr.proofs.IntLaws.{int_type_sound}
use Rattle.c_parse_expr.proofs.ExprSound.{nested_sound}
use Rattle.c_parse_expr.proofs.TypeLaws.{base_flat, append_one}
use Rattle.c_language.proofs.Lists.{same_bytes}
use Rattle.c_language.proofs.Tests.{by_test}

pub base_sound : (ts rest : Tokens) (a : RawType) → base ts ≡ Ok (a, rest) → IsBase ts a rest
unfolding base
base_sound ts rest a h =
    by_test (sees Name (codes "struct") ts) h
    (λ is h. by_seen Name (codes "struct") ts is (λ l mid at.
    let e : drop 1 ts ≡ mid = ap (drop 1) at in
    by_step (read_name (drop 1 ts)) _ h (λ tag after went h.
    by_name mid after tag (rw e at went) (λ m free at2.
    with_parts (λ b r. IsBase ts b r) h (rw (at, at2) (structure free))))))
    (λ _ h. by_step (int_type_name ts) _ h (λ t mid went h. with_parts (λ b r. IsBase ts b r) h (integer (int_type_sound ts mid t went))))

-- what a parser of stars gives
pub record StarsSound (limit : ℕ) (ts : Tokens) (a b : RawType) (rest : Tokens) : Type 0 where
  pub is : IsStars ts a b rest
  pub low : type_nesting b ≤ type_nesting a + limit

pub stars_sound : (limit : ℕ) (ts rest : Tokens) (a b : RawType) → stars limit a ts ≡ Ok (b, rest) → StarsSound limit ts a b rest
unfolding stars
stars_sound zero ts rest a b h =
    by_test (sees Mark (codes "*") ts) h (λ _ h. absurd cc)
    (λ isnt h. with_parts (λ c r. StarsSound zero ts a c r) h (record { is = IsStars.done isnt; low = omega arith }))
stars_sound (suc limit) ts rest a b h =
    by_test (sees Mark (codes "*") ts) h
    (λ is h. by_seen Mark (codes "*") ts is (λ l mid at.
    let e : drop 1 ts ≡ mid = ap (drop 1) at in
    let s = stars_sound limit mid rest (type.PointerTo a) b (rw e at h) in
    let f = type_nesting-PointerTo a in
    rw at (record { is = star s.is; low = omega (arith, s.low, f) })))
    (λ isnt h. with_parts (λ c r. StarsSound (suc limit) ts a c r) h (record { is = IsStars.done isnt; low = omega arith }))

-- as many stars as are counted stand there
star_count_sound : (ts : Tokens) (a : RawType) → IsStars ts a (pointed_n (star_count ts) a) (drop (star_count ts) ts)
unfolding star_count sees
star_count_sound [] a = IsStars.done refl
star_count_sound (t ∷ ts) a = elim (cases_Bool (sees Mark (codes "*") (t ∷ ts))) [
  | inl is ↦ by_seen Mark (codes "*") (t ∷ ts) is (λ l mid at.
      let e : mid ≡ ts = sym (ap (drop 1) at) in
      rw is (subst (λ us. IsStars us a (pointed_n (star_count ts) (type.PointerTo a)) (drop (star_count ts) ts)) (sym (at ∙ ap (λ r. mark (codes "*") l ∷ r) e))
      (star (star_count_sound ts (type.PointerTo a)))))
  | inr isnt ↦ rw isnt (IsStars.done isnt)
]

pub type_name_sound : (ts rest : Tokens) (a : RawTypeName) → type_name ts ≡ Ok (a, rest) → NamesType ts a rest
unfolding type_name
type_name_sound ts rest a h = by_step (base ts) _ h (λ b mid went h.
    with_parts (λ c r. NamesType ts c r) h (starred (base_sound ts mid b went) (star_count_sound mid b)))

-- ---- lengths

pub record LengthsSound (depth : ℕ) (ts : Tokens) (a b : RawType) (rest : Tokens) : Type 0 where
  pub is : IsLengths ts a b rest
  pub low : type_nesting b ≤ depth

fitting_told : {G : Type 0} (depth : ℕ) (a b : RawType) (ts rest : Tokens) → fitting depth a ts ≡ Ok (b, rest) → (type_nesting a ≤ depth → a ≡ b → ts ≡ rest → G) → G
fitting_told depth a b ts rest h go =
    by_test (nat_le (type_nesting a) depth) h
    (λ is h. let e = ok_parts h in go (leb-true (type_nesting a) depth is) e.0 e.1)
    (λ _ h. absurd cc)

no_more_lengths : (depth : ℕ) (a b : RawType) (ts rest : Tokens) → sees Mark (codes "[") ts ≡ false → fitting depth a ts ≡ Ok (b, rest) → LengthsSound depth ts a b rest
no_more_lengths depth a b ts rest isnt h =
    fitting_told depth a b ts rest h (λ low same ends.
    subst (λ (c : RawType). LengthsSound depth ts a c rest) same (subst (λ (r : Tokens). LengthsSound depth ts a a r) ends (record { is = IsLengths.done isnt; low = low })))

pub lengths_sound : (depth : ℕ) (ts rest : Tokens) (a b : RawType) → lengths depth a ts ≡ Ok (b, rest) → LengthsSound depth ts a b rest
unfolding lengths
lengths_sound zero ts rest a b h =
    by_test (sees Mark (codes "[") ts) h (λ _ h. absurd cc) (λ isnt h. no_more_lengths zero a b ts rest isnt h)
lengths_sound (suc depth) ts rest a b h =
    by_test (sees Mark (codes "[") ts) h
    (λ is h. by_seen Mark (codes "[") ts is (λ l inside at.
    let e : drop 1 ts ≡ inside = ap (drop 1) at in
    let h2 : with_length (suc depth) (lengths depth a) inside ≡ Ok (b, rest) = rw e at h in
    by_step (nested (suc depth) 1 inside) _ h2 (λ n mid went h2.
    by_step (expect (codes "]") mid) _ h2 (λ u after closed h2.
    by_expect (codes "]") mid after u closed (λ m at2.
    by_step (lengths depth a after) _ h2 (λ c behind went2 h2.
    let s = nested_sound (suc depth) 1 inside n mid (omega arith) (omega arith) went in
    let inner : IsExpr 1 inside n (mark (codes "]") m ∷ after) = rw at2 at s.is in
    let t = lengths_sound depth after behind a c went2 in
    let f = type_nesting-Array c (Written n) in
    with_parts (λ x r. LengthsSound (suc depth) ts a x r) h2 (rw at (record { is = IsLengths.length inner t.is; low = omega (arith, s.low, t.low, f) }))))))))
    (λ isnt h. no_more_lengths (suc depth) a b ts rest isnt h)

pub record OuterSound (depth : ℕ) (ts : Tokens) (a b : RawType) (rest : Tokens) : Type 0 where
  pub is : IsOuterLengths ts a b rest
  pub low : type_nesting b ≤ depth

-- an empty length in front, passed on
pub by_empty : {G : Type 0} (ts : Tokens) → sees_empty_length ts ≡ true → ((l m : ℕ) (rest : Tokens) → ts ≡ mark (codes "[") l ∷ mark (codes "]") m ∷ rest → G) → G
unfolding sees_empty_length sees sees_second
by_empty [] h go = absurd cc
by_empty (t ∷ []) h go = let parts = and_parts (is_some_token Mark (codes "[") (Some t)) false h in absurd (let f : true ≡ false = sym parts.1 in cc)
by_empty (t ∷ (u ∷ ts)) h go =
    let parts = and_parts (is_some_token Mark (codes "[") (Some t)) (is_some_token Mark (codes "]") (Some u)) h in
    let one = and_parts (is_kind Mark t) (bytes_eq t.text (codes "[")) parts.0 in
    let two = and_parts (is_kind Mark u) (bytes_eq u.text (codes "]")) parts.1 in
    let t_is : t ≡ mark (codes "[") t.line = sym (of_kind_is Mark t one.0) ∙ ap (λ (w : Bytes). mark w t.line) (same_bytes t.text (codes "[") one.1) in
    let u_is : u ≡ mark (codes "]") u.line = sym (of_kind_is Mark u two.0) ∙ ap (λ (w : Bytes). mark w u.line) (same_bytes u.text (codes "]") two.1) in
    go t.line u.line ts (ap (λ (x : Token). x ∷ (u ∷ ts)) t_is ∙ ap (λ (x : Token). mark (codes "[") t.line ∷ (x ∷ ts)) u_is)

empty_sound : (depth l m : ℕ) (ts rest : Tokens) (a b : RawType) → empty_length depth a ts ≡ Ok (b, rest) → OuterSound depth (mark (codes "[") l ∷ mark (codes "]") m ∷ ts) a b rest
unfolding empty_length
empty_sound zero l m ts rest a b h = absurd cc
empty_sound (suc depth) l m ts rest a b h =
    by_step (lengths depth a ts) _ h (λ c behind went h.
    let s = lengths_sound depth ts behind a c went in
    let f = type_nesting-Array c Listed in
    with_parts (λ x r. OuterSound (suc depth) (mark (codes "[") l ∷ mark (codes "]") m ∷ ts) a x r) h (record { is = IsOuterLengths.empty s.is; low = omega (arith, s.low, f) }))

pub outer_sound : (depth : ℕ) (ts rest : Tokens) (a b : RawType) → outer_lengths depth a ts ≡ Ok (b, rest) → OuterSound depth ts a b rest
unfolding outer_lengths
outer_sound depth ts rest a b h =
    by_test (sees_empty_length ts) h
    (λ is h. by_empty ts is (λ l m inside at.
    let e : drop 1 (drop 1 ts) ≡ inside = ap (λ (u : Tokens). drop 1 (drop 1 u)) at in
    rw at (empty_sound depth l m inside rest a b (rw e at h))))
    (λ _ h. let s = lengths_sound depth ts rest a b h in record { is = IsOuterLengths.written s.is; low = s.low })

-- ---- declarators

-- what a parser of declarators gives
pub record DeclaratorSound (depth : ℕ) (ts : Tokens) (a : RawType) (v : RawVar) (rest : Tokens) : Type 0 where
  pub is : IsDeclarator ts a v rest
  pub low : type_nesting v.shape ≤ depth

pub declarator_sound : (depth : ℕ) (ts rest : Tokens) (a : RawType) (v : RawVar) → declarator depth a ts ≡ Ok (v, rest) → DeclaratorSound depth ts a v rest
unfolding declarator
declarator_sound depth ts rest a v h =
    by_step (stars depth a ts) _ h (λ b mid went h.
    by_step (read_name mid) _ h (λ text after called h.
    by_name mid after text called (λ l free at.
    by_step (outer_lengths depth b after) _ h (λ c behind went2 h.
    let s = stars_sound depth ts mid a b went in
    let t = outer_sound depth after behind b c went2 in
    let begun : IsStars ts a b (name text l ∷ after) = rw at at s.is in
    with_parts (λ (x : RawVar) r. DeclaratorSound depth ts a x r) h (record { is = IsDeclarator.named begun free t.is; low = t.low })))))

-- ---- parameters

pub param_name_sound : (ts rest : Tokens) (called : Option Bytes) → param_name ts ≡ Ok (called, rest) → IsParamName ts called rest
unfolding param_name
param_name_sound ts rest called h =
    by_test (sees_name ts) h
    (λ _ h. by_step (read_name ts) _ h (λ text after went h.
    by_name ts after text went (λ l free at. with_parts (λ x r. IsParamName ts x r) h (rw at (IsParamName.named free)))))
    (λ isnt h. with_parts (λ x r. IsParamName ts x r) h (IsParamName.unnamed isnt))

-- what a parser of parameters gives
pub record ParamSound (depth : ℕ) (ts : Tokens) (p : RawParam) (rest : Tokens) : Type 0 where
  pub is : IsParam ts p rest
  pub low : param_nesting p ≤ depth

end_length : (depth : ℕ) (start mid ts rest : Tokens) (a : RawType) (called : Option Bytes) (n : Option RawExpr) (l : ℕ) → IsTypeName start a mid → IsParamName mid called (mark (codes "[") l ∷ ts) → type_nesting a < depth
    → param_length depth ts ≡ Ok (n, rest) → ParamSound depth start (record { line = line_of start; name = called; shape = type.PointerTo a; length = n }) rest
unfolding param_length
end_length depth start mid ts rest a called n l typed here below h =
    let f = type_nesting-PointerTo a in
    by_test (sees Mark (codes "]") ts) h
    (λ is h. by_seen Mark (codes "]") ts is (λ m after at.
    let e : drop 1 ts ≡ after = ap (drop 1) at in
    let unsized_is : IsParamName mid called (mark (codes "[") l ∷ mark (codes "]") m ∷ after) = subst (λ (r : Tokens). IsParamName mid called (mark (codes "[") l ∷ r)) at here in
    with_parts (λ (x : Option RawExpr) r. ParamSound depth start (record { line = line_of start; name = called; shape = type.PointerTo a; length = x }) r) h
    (rw e (record { is = IsParam.unsized typed unsized_is; low = omega (arith, below, f) }))))
    (λ _ h. by_step (nested depth 1 ts) _ h (λ v behind went h.
    by_step (expect (codes "]") behind) _ h (λ u after closed h.
    by_expect (codes "]") behind after u closed (λ m at.
    let s = nested_sound depth 1 ts v behind (omega arith) (omega arith) went in
    let inner : IsExpr 1 ts v (mark (codes "]") m ∷ after) = rw at at s.is in
    with_parts (λ (x : Option RawExpr) r. ParamSound depth start (record { line = line_of start; name = called; shape = type.PointerTo a; length = x }) r) h
    (record { is = IsParam.sized typed here inner; low = omega (arith, below, f, s.low) })))))

end_sound : (depth : ℕ) (start mid ts rest : Tokens) (a : RawType) (called : Option Bytes) (p : RawParam) → IsTypeName start a mid → IsParamName mid called ts → type_nesting a ≤ depth
    → param_end depth (line_of start) a called ts ≡ Ok (p, rest) → ParamSound depth start p rest
unfolding param_end
end_sound depth start mid ts rest a called p typed called_is low h =
    by_test (sees Mark (codes "[") ts) h
    (λ is h. by_seen Mark (codes "[") ts is (λ l inside at.
    let e : drop 1 ts ≡ inside = ap (drop 1) at in
    let here : IsParamName mid called (mark (codes "[") l ∷ inside) = subst (λ (r : Tokens). IsParamName mid called r) at called_is in
    let f = type_nesting-PointerTo a in
    by_test (nat_lt (type_nesting a) depth) h
    (λ room h.
    let below = ltb-true (type_nesting a) depth room in
    by_step (param_length depth (drop 1 ts)) _ h (λ n after went h.
    with_parts (λ x r. ParamSound depth start x r) h
    (end_length depth start mid inside after a called n l typed here below (rw e at went))))
    (λ _ h. absurd cc)))
    (λ isnt h. with_parts (λ x r. ParamSound depth start x r) h (record { is = IsParam.plain typed called_is isnt; low = omega (arith, low) }))

pub param_sound : (depth : ℕ) (ts rest : Tokens) (p : RawParam) → param depth ts ≡ Ok (p, rest) → ParamSound depth ts p rest
unfolding param
param_sound depth ts rest p h =
    by_step (base ts) _ h (λ b m1 went h.
    by_step (stars depth b m1) _ h (λ a mid went2 h.
    by_step (param_name mid) _ h (λ called after went3 h.
    let base_is = base_sound ts m1 b went in
    let s = stars_sound depth m1 mid b a went2 in
    let flat = base_flat base_is in
    end_sound depth ts mid after rest a called p (pointed base_is s.is) (param_name_sound mid after called went3) (omega (arith, s.low, flat)) h)))

-- ---- lists of parameters

pub record ParamsSound (depth : ℕ) (ts : Tokens) (ps : List RawParam) (rest : Tokens) : Type 0 where
  pub is : IsParams ts ps rest
  pub low : params_nesting ps ≤ depth

record MoreSound (depth : ℕ) (found : List RawParam) (ts : Tokens) (all : List RawParam) (rest : Tokens) : Type 0 where
  ps : List RawParam
  is : IsMoreParams ts ps rest
  low : params_nesting ps ≤ depth
  same : found ++ ps ≡ all

more_sound : (depth turns : ℕ) (found all : List RawParam) (ts rest : Tokens) → params_from depth turns found ts ≡ Ok (all, rest) → MoreSound depth found ts all rest
unfolding params_from
more_sound depth zero found all ts rest h = absurd cc
more_sound depth (suc turns) found all ts rest h =
    by_test (sees Mark (codes ")") ts) h
    (λ is h. by_seen Mark (codes ")") ts is (λ l mid at.
    let e : drop 1 ts ≡ mid = ap (drop 1) at in
    let here : MoreSound depth found (mark (codes ")") l ∷ mid) found (drop 1 ts) = rw e (record { ps = []; is = IsMoreParams.closed; low = omega arith; same = append-nil found }) in
    rw at (with_parts (λ (x : List RawParam) r. MoreSound depth found (mark (codes ")") l ∷ mid) x r) h here)))
    (λ _ h. by_step (expect (codes ",") ts) _ h (λ u after parted h.
    by_expect (codes ",") ts after u parted (λ l at.
    by_step (param depth after) _ h (λ p mid went h.
    let s = param_sound depth after mid p went in
    let t = more_sound depth turns (found ++ p ∷ []) all mid rest h in
    rw at (record { ps = p ∷ t.ps; is = IsMoreParams.more s.is t.is; low = omega (arith, s.low, t.low); same = sym (append_one found p t.ps) ∙ t.same })))))

pub params_sound : (depth : ℕ) (ts rest : Tokens) (ps : List RawParam) → params depth ts ≡ Ok (ps, rest) → ParamsSound depth ts ps rest
unfolding params
params_sound depth ts rest ps h =
    by_test (sees Mark (codes ")") ts) h
    (λ is h. by_seen Mark (codes ")") ts is (λ l mid at.
    let e : drop 1 ts ≡ mid = ap (drop 1) at in
    let here : ParamsSound depth (mark (codes ")") l ∷ mid) [] (drop 1 ts) = rw e (record { is = IsParams.empty; low = omega arith }) in
    rw at (with_parts (λ (x : List RawParam) r. ParamsSound depth (mark (codes ")") l ∷ mid) x r) h here)))
    (λ _ h. by_test (sees Name (codes "void") ts) h
    (λ is h. by_seen Name (codes "void") ts is (λ l mid at.
    let e : drop 1 ts ≡ mid = ap (drop 1) at in
    by_step (expect (codes ")") (drop 1 ts)) _ h (λ u after closed h.
    by_expect (codes ")") mid after u (rw e at closed) (λ m at2.
    let here : ParamsSound depth (name (codes "void") l ∷ mark (codes ")") m ∷ after) [] after = record { is = IsParams.nothing; low = omega arith } in
    rw (at, at2) (with_parts (λ (x : List RawParam) r. ParamsSound depth (name (codes "void") l ∷ mark (codes ")") m ∷ after) x r) h here)))))
    (λ _ h. by_step (param depth ts) _ h (λ p mid went h.
    let s = param_sound depth ts mid p went in
    let t = more_sound depth (length mid) (p ∷ []) ps mid rest h in
    subst (λ (x : List RawParam). ParamsSound depth ts x rest) t.same (record { is = IsParams.some s.is t.is; low = omega (arith, s.low, t.low) }))))
