-- Each type, declarator and list of parameters of the grammar is read, and those that nest too deep are refused for that.
use Rattle.std.proofs.Common.{◌≡◌, ℕ, zero, suc, ◌+◌, ◌-◌, ◌≤◌, ◌<◌, List, [], ◌∷◌, ◌++◌, length, drop, refl, sym, ap, subst, ◌∙◌, arith, Bool, true, false, ◌||◌, Option, Some, None, Ok, Err, codes, inl, inr}
use Rattle.std.specs.Str.{bytes_eq}
use Rattle.std.proofs.lemmas.Bool.{cases_lt, cases_Bool, and_parts, or_right, and_right}
use Rattle.std.proofs.lemmas.Bool.Decides.{nat_tests}
use Rattle.std.proofs.lemmas.List.{append-nil}
use Rattle.c_tree.specs.declared.raw.expr.RawExpr.{RawExpr}
use Rattle.c_tree.specs.declared.raw.expr.RawLength.TheVariants.{Written, Listed}
use Rattle.c_tree.specs.declared.raw.expr.RawType.{RawType}
use Rattle.c_tree.specs.declared.raw.expr.RawType.TheVariants as type
use Rattle.c_tree.specs.declared.raw.expr.RawVar.{RawVar}
use Rattle.c_tree.specs.declared.raw.program.RawParam.{RawParam}
use Rattle.c_tree.specs.declared.raw.statement.RawTypeName.{RawTypeName}
use Rattle.c_language.specs.Words.{Bytes}
use Rattle.c_language.specs.TokenForms.{Tokens, name, mark, line_of}
use Rattle.c_language.specs.Sees.{sees, sees_second, sees_name, is_keyword, is_kind}
use Rattle.c_language.specs.IntWords.{is_int_word, sees_int_word}
use Rattle.c_language.specs.TypeGrammar.{IsBase, structure, integer, IsStars, star, IsTypeName, pointed, pointed_n, NamesType, starred, IsLengths, IsOuterLengths, IsDeclarator, IsParamName, IsParam, IsMoreParams, IsParams}
use Rattle.c_language.specs.Nesting.{nesting, type_nesting, param_nesting, params_nesting}
use Rattle.c_language.specs.declared.token.Token.{Token}
use Rattle.c_language.specs.declared.token.TokenKind.TheVariants.{Name, Mark}
use Rattle.c_language.proofs.NestingLemmas.{type_nesting-Integer, type_nesting-PointerTo, type_nesting-Array, type_nesting-Struct}
use Rattle.c_parse_expr.specs.Outcome.{Parser, and_then, Deep, expect}
use Rattle.c_parse_expr.specs.ExprReading.{goes_on, extension, extension_by, infix_by, logical, comparison, arithmetic, multiplies_size, nested}
use Rattle.c_parse_expr.specs.TypeReading.{base, stars, star_count, type_name, fitting, with_length, lengths, sees_empty_length, empty_length, outer_lengths, declarator, param_name, param_length, param_end, param, params_from, params}
use Rattle.c_parse_words.proofs.SeenTokens.{apart_by, of_kind_is}
use Rattle.c_parse_expr.proofs.Tests.{read_name_at}
use Rattle.c_parse_expr.proofs.IntLaws.{int_type_read, int_type_shorter, int_type_begins}
use Rattle.c_parse_expr.proofs.ExprLaws.{begins_expr, shorter, Exact, nested_exact}
use Rattle.c_language.proofs.Lists.{same_bytes}

-- ---- the tests that a parser makes where a type begins

abbrev pub is_type_word : Bytes → Bool
is_type_word w = bytes_eq w (codes "struct") || is_int_word w

-- a type begins with one of its words
pub record BeginsType (ts : Tokens) : Type 0 where
  pub no_mark : (text : Bytes) → sees Mark text ts ≡ false
  pub no_word : (text : Bytes) → is_type_word text ≡ false → sees Name text ts ≡ false

struct_begins : (l : ℕ) (ts : Tokens) → BeginsType (name (codes "struct") l ∷ ts)
unfolding sees
struct_begins l ts = record { no_mark = λ text. refl; no_word = λ text k. apart_by is_type_word (codes "struct") text refl k }

word_begins : (w : Bytes) (l : ℕ) (ts : Tokens) → is_type_word w ≡ true → BeginsType (name w l ∷ ts)
unfolding sees
word_begins w l ts h = record { no_mark = λ text. refl; no_word = λ text k. apart_by is_type_word w text h k }

int_word_begins : (ts : Tokens) → sees_int_word ts ≡ true → BeginsType ts
unfolding sees_int_word
int_word_begins [] h = absurd cc
int_word_begins (t ∷ ts) h =
    let parts = and_parts (is_kind Name t) (is_int_word t.text) h in
    subst (λ (u : Token). BeginsType (u ∷ ts)) (of_kind_is Name t parts.0) (word_begins t.text t.line ts (or_right (bytes_eq t.text (codes "struct")) (is_int_word t.text) parts.1))

-- an integer type begins with no other word
pub no_struct : (ts : Tokens) → sees_int_word ts ≡ true → sees Name (codes "struct") ts ≡ false
unfolding sees_int_word sees
no_struct [] h = absurd cc
no_struct (t ∷ ts) h =
    let parts = and_parts (is_kind Name t) (is_int_word t.text) h in
    elim (cases_Bool (bytes_eq t.text (codes "struct"))) [
      | inl is ↦ let e : is_int_word t.text ≡ is_int_word (codes "struct") = ap is_int_word (same_bytes t.text (codes "struct") is) in absurd (let f : true ≡ false = sym parts.1 ∙ e in cc)
      | inr isnt ↦ rw isnt (and_right (is_kind Name t) false refl)
    ]

pub begins_base : {ts rest : Tokens} {a : RawType} → IsBase ts a rest → BeginsType ts
begins_base (structure {l} {m} {tag} {rest} free) = struct_begins l (name tag m ∷ rest)
begins_base (integer {ts} h) = int_word_begins ts (int_type_begins h)

pub begins_type_name : {ts rest : Tokens} {a : RawType} → IsTypeName ts a rest → BeginsType ts
begins_type_name (pointed h k) = begins_base h

pub begins_param : {ts rest : Tokens} {p : RawParam} → IsParam ts p rest → BeginsType ts
begins_param (IsParam.plain h k free) = begins_type_name h
begins_param (IsParam.unsized h k) = begins_type_name h
begins_param (IsParam.sized h k j) = begins_type_name h

-- ---- types

pub base_shorter : {ts rest : Tokens} {a : RawType} → IsBase ts a rest → length rest < length ts
base_shorter (structure free) = omega arith
base_shorter (integer h) = int_type_shorter h

pub stars_shorter : {ts rest : Tokens} {a b : RawType} → IsStars ts a b rest → length rest ≤ length ts
stars_shorter (IsStars.done h) = omega arith
stars_shorter (star h) = let e = stars_shorter h in omega (arith, e)

pub base_flat : {ts rest : Tokens} {a : RawType} → IsBase ts a rest → type_nesting a ≡ 0
base_flat (structure {tag} free) = type_nesting-Struct tag
base_flat (integer {t} h) = type_nesting-Integer t

pub base_read : {ts rest : Tokens} {a : RawType} → IsBase ts a rest → base ts ≡ Ok (a, rest)
unfolding base sees
base_read (structure {l} {m} {tag} {rest} free) = rw (read_name_at tag m rest free) refl
base_read (integer {ts} {rest} {t} h) = rw (no_struct ts (int_type_begins h), int_type_read h) refl

pub stars_high : {ts rest : Tokens} {a b : RawType} → IsStars ts a b rest → type_nesting a ≤ type_nesting b
stars_high (IsStars.done h) = omega arith
stars_high (star {a} h) = let e = stars_high h in let f = type_nesting-PointerTo a in omega (arith, e, f)

-- a parser of stars answers for a type that nests so much deeper than the one before the stars
pub record Starred (limit : ℕ) (a b : RawType) (ts rest : Tokens) : Type 0 where
  pub fits : type_nesting b ≤ type_nesting a + limit → stars limit a ts ≡ Ok (b, rest)
  pub deep : type_nesting a + limit < type_nesting b → stars limit a ts ≡ Err Deep

pub stars_exact : {ts rest : Tokens} {a b : RawType} → IsStars ts a b rest → (limit : ℕ) → Starred limit a b ts rest
unfolding stars sees
stars_exact (IsStars.done {rest} {a} h) zero = record { fits = λ q. rw h refl; deep = λ q. absurd (omega arith) }
stars_exact (IsStars.done {rest} {a} h) (suc limit) = record { fits = λ q. rw h refl; deep = λ q. absurd (omega arith) }
stars_exact (star {l} {ts} {rest} {a} {b} h) zero = record { fits = λ q. let e = stars_high h in let f = type_nesting-PointerTo a in absurd (omega (arith, e, f, q)); deep = λ q. refl }
stars_exact (star {l} {ts} {rest} {a} {b} h) (suc limit) =
    let r = stars_exact h limit in
    let f = type_nesting-PointerTo a in
    record { fits = λ q. r.fits (omega (arith, f, q)); deep = λ q. r.deep (omega (arith, f, q)) }

-- the count of the stars, by whether one is in front
pub no_star_count : (ts : Tokens) → sees Mark (codes "*") ts ≡ false → star_count ts ≡ 0
unfolding star_count
no_star_count [] h = refl
no_star_count (t ∷ ts) h = rw h refl

pub one_star_more : (ts : Tokens) → sees Mark (codes "*") ts ≡ true → star_count ts ≡ suc (star_count (drop 1 ts))
unfolding star_count sees
one_star_more [] h = absurd cc
one_star_more (t ∷ ts) h = rw h refl

-- all the stars at the front are counted
stars_counted : {ts rest : Tokens} {a b : RawType} → IsStars ts a b rest → type_nesting b ≡ type_nesting a + star_count ts
unfolding star_count sees
stars_counted (IsStars.done {rest = []} h) = omega arith
stars_counted (IsStars.done {rest = t ∷ ts} h) = rw h (omega arith)
stars_counted (star {a} h) = let e = stars_counted h in let f = type_nesting-PointerTo a in omega (arith, e, f)

stars_passed : {ts rest : Tokens} {a b : RawType} → IsStars ts a b rest → drop (star_count ts) ts ≡ rest
unfolding star_count sees
stars_passed (IsStars.done {rest = []} h) = refl
stars_passed (IsStars.done {rest = t ∷ ts} h) = rw h refl
stars_passed (star h) = stars_passed h

pub pointed_nests : (n : ℕ) (a : RawType) → type_nesting (pointed_n n a) ≡ n + type_nesting a
pointed_nests zero a = omega arith
pointed_nests (suc n) a = let e = pointed_nests n (type.PointerTo a) in let f = type_nesting-PointerTo a in omega (arith, e, f)

star_count_is : {ts rest : Tokens} {n : ℕ} {a : RawType} → IsStars ts a (pointed_n n a) rest → star_count ts ≡ n
star_count_is {n = n} {a} h = let e = stars_counted h in let f = pointed_nests n a in omega (arith, e, f)

pub type_name_read : {ts rest : Tokens} {a : RawTypeName} → NamesType ts a rest → type_name ts ≡ Ok (a, rest)
unfolding type_name
type_name_read (starred {n} {ts} {mid} {rest} {base = a} h k) =
    rw (base_read h, stars_passed k) (ap (λ m. Ok (record { base = a; stars = m }, rest)) (star_count_is k))

-- ---- lengths

bracket_ends : (l : ℕ) (ts : Tokens) → goes_on (mark (codes "]") l ∷ ts) ≡ false
unfolding goes_on extension extension_by infix_by logical comparison arithmetic multiplies_size sees
bracket_ends l ts = refl

fitting_fits : (depth : ℕ) (a : RawType) (ts : Tokens) → type_nesting a ≤ depth → fitting depth a ts ≡ Ok (a, ts)
fitting_fits depth a ts p = grind (arith, nat_tests)

fitting_deep : (depth : ℕ) (a : RawType) (ts : Tokens) → depth < type_nesting a → fitting depth a ts ≡ Err Deep
fitting_deep depth a ts p = grind (arith, nat_tests)

pub no_length : (depth : ℕ) (a : RawType) (ts : Tokens) → sees Mark (codes "[") ts ≡ false → lengths depth a ts ≡ fitting depth a ts
unfolding lengths
no_length zero a ts h = rw h refl
no_length (suc depth) a ts h = rw h refl

pub some_length : (depth : ℕ) (a : RawType) (ts : Tokens) → sees Mark (codes "[") ts ≡ true → 0 < depth → lengths depth a ts ≡ with_length depth (lengths (depth - 1) a) (drop 1 ts)
unfolding lengths
some_length zero a ts h some = absurd (omega arith)
some_length (suc depth) a ts h some = let e : suc depth - 1 ≡ depth = omega arith in rw (h, e) refl

one_length : (depth l : ℕ) (a : RawType) (ts : Tokens) → lengths (suc depth) a (mark (codes "[") l ∷ ts) ≡ with_length (suc depth) (lengths depth a) ts
unfolding lengths sees
one_length depth l a ts = refl

full_length : (l : ℕ) (a : RawType) (ts : Tokens) → lengths zero a (mark (codes "[") l ∷ ts) ≡ Err Deep
unfolding lengths sees
full_length l a ts = refl

length_read : (depth m : ℕ) (inner : Parser RawType) (n : RawExpr) (b : RawType) (ts mid rest : Tokens) → nested depth 1 ts ≡ Ok (n, mark (codes "]") m ∷ mid) → inner mid ≡ Ok (b, rest)
    → with_length depth inner ts ≡ Ok (type.Array b (Written n), rest)
unfolding expect sees
length_read depth m inner n b ts mid rest h k = rw (h, k) refl

length_deep : (depth : ℕ) (inner : Parser RawType) (ts : Tokens) → nested depth 1 ts ≡ Err Deep → with_length depth inner ts ≡ Err Deep
length_deep depth inner ts h = rw h refl

inner_deep : (depth m : ℕ) (inner : Parser RawType) (n : RawExpr) (ts mid : Tokens) → nested depth 1 ts ≡ Ok (n, mark (codes "]") m ∷ mid) → inner mid ≡ Err Deep
    → with_length depth inner ts ≡ Err Deep
unfolding expect sees
inner_deep depth m inner n ts mid h k = rw (h, k) refl

pub lengths_exact : {ts rest : Tokens} {a b : RawType} → IsLengths ts a b rest → (depth : ℕ) → Exact depth (type_nesting b) (lengths depth a ts) b rest
lengths_exact (IsLengths.done {rest} {a} h) depth = record { fits = λ q. no_length depth a rest h ∙ fitting_fits depth a rest q; deep = λ q. no_length depth a rest h ∙ fitting_deep depth a rest q }
lengths_exact (IsLengths.length {l} {m} {ts} {mid} {rest} {n} {a} {b} h k) zero =
    let e = type_nesting-Array b (Written n) in
    record { fits = λ q. absurd (omega (arith, e, q)); deep = λ q. full_length l a ts }
lengths_exact (IsLengths.length {l} {m} {ts} {mid} {rest} {n} {a} {b} h k) (suc depth) =
    let e = type_nesting-Array b (Written n) in
    let one = nested_exact h (bracket_ends m mid) (suc depth) in
    let more = lengths_exact k depth in
    record {
      fits = λ q. one_length depth l a ts ∙ length_read (suc depth) m (lengths depth a) n b ts mid rest (one.fits (omega (arith, e, q))) (more.fits (omega (arith, e, q)));
      deep = λ q. one_length depth l a ts ∙ elim (cases_lt depth (nesting n)) [
        | inl high ↦ length_deep (suc depth) (lengths depth a) ts (one.deep (omega (arith, high)))
        | inr low ↦ inner_deep (suc depth) m (lengths depth a) n ts mid (one.fits (omega (arith, low))) (more.deep (omega (arith, e, q, low)))
      ];
    }

bracket_second : (l : ℕ) (ts : Tokens) → sees Mark (codes "]") ts ≡ false → sees_empty_length (mark (codes "[") l ∷ ts) ≡ false
unfolding sees_empty_length sees sees_second
bracket_second l ts h = h

not_empty : {ts rest : Tokens} {a b : RawType} → IsLengths ts a b rest → sees_empty_length ts ≡ false
unfolding sees_empty_length sees_second
not_empty (IsLengths.done {rest} h) = rw h refl
not_empty (IsLengths.length {l} {ts} h k) = bracket_second l ts ((begins_expr h).no_mark (codes "]") refl)

outer_written : (depth : ℕ) (a : RawType) (ts : Tokens) → sees_empty_length ts ≡ false → outer_lengths depth a ts ≡ lengths depth a ts
unfolding outer_lengths
outer_written depth a ts h = rw h refl

outer_empty : (depth l m : ℕ) (a : RawType) (ts : Tokens) → outer_lengths depth a (mark (codes "[") l ∷ mark (codes "]") m ∷ ts) ≡ empty_length depth a ts
unfolding outer_lengths sees_empty_length sees sees_second
outer_empty depth l m a ts = refl

empty_read : (depth : ℕ) (a b : RawType) (ts rest : Tokens) → lengths depth a ts ≡ Ok (b, rest) → empty_length (suc depth) a ts ≡ Ok (type.Array b Listed, rest)
unfolding empty_length
empty_read depth a b ts rest h = rw h refl

empty_deep : (depth : ℕ) (a : RawType) (ts : Tokens) → lengths depth a ts ≡ Err Deep → empty_length (suc depth) a ts ≡ Err Deep
unfolding empty_length
empty_deep depth a ts h = rw h refl

empty_full : (a : RawType) (ts : Tokens) → empty_length zero a ts ≡ Err Deep
unfolding empty_length
empty_full a ts = refl

pub outer_exact : {ts rest : Tokens} {a b : RawType} → IsOuterLengths ts a b rest → (depth : ℕ) → Exact depth (type_nesting b) (outer_lengths depth a ts) b rest
outer_exact (IsOuterLengths.written {ts} {rest} {a} {b} h) depth =
    let same = outer_written depth a ts (not_empty h) in
    let r = lengths_exact h depth in
    record { fits = λ q. same ∙ r.fits q; deep = λ q. same ∙ r.deep q }
outer_exact (IsOuterLengths.empty {l} {m} {ts} {rest} {a} {b} h) zero =
    let e = type_nesting-Array b Listed in
    record { fits = λ q. absurd (omega (arith, e, q)); deep = λ q. outer_empty zero l m a ts ∙ empty_full a ts }
outer_exact (IsOuterLengths.empty {l} {m} {ts} {rest} {a} {b} h) (suc depth) =
    let e = type_nesting-Array b Listed in
    let r = lengths_exact h depth in
    record {
      fits = λ q. outer_empty (suc depth) l m a ts ∙ empty_read depth a b ts rest (r.fits (omega (arith, e, q)));
      deep = λ q. outer_empty (suc depth) l m a ts ∙ empty_deep depth a ts (r.deep (omega (arith, e, q)));
    }

-- ---- declarators

lengths_high : {ts rest : Tokens} {a b : RawType} → IsLengths ts a b rest → type_nesting a ≤ type_nesting b
lengths_high (IsLengths.done h) = omega arith
lengths_high (IsLengths.length {n} {a} {b} h k) = let e = type_nesting-Array b (Written n) in let f = lengths_high k in omega (arith, e, f)

outer_high : {ts rest : Tokens} {a b : RawType} → IsOuterLengths ts a b rest → type_nesting a ≤ type_nesting b
outer_high (IsOuterLengths.written h) = lengths_high h
outer_high (IsOuterLengths.empty {a} {b} h) = let e = type_nesting-Array b Listed in let f = lengths_high h in omega (arith, e, f)

declarator_parts : (depth l : ℕ) (a b : RawType) (text : Bytes) (ts mid : Tokens) → stars depth a ts ≡ Ok (b, name text l ∷ mid) → is_keyword text ≡ false
    → declarator depth a ts ≡ and_then (outer_lengths depth b mid) (λ c rest. Ok (record { name = text; shape = c }, rest))
unfolding declarator
declarator_parts depth l a b text ts mid h free = rw (h, read_name_at text l mid free) refl

declarator_stars : (depth : ℕ) (a : RawType) (ts : Tokens) → stars depth a ts ≡ Err Deep → declarator depth a ts ≡ Err Deep
unfolding declarator
declarator_stars depth a ts h = rw h refl

pub declarator_exact : {ts rest : Tokens} {a : RawType} {v : RawVar} → IsDeclarator ts a v rest → type_nesting a ≡ 0 → (depth : ℕ) → Exact depth (type_nesting v.shape) (declarator depth a ts) v rest
declarator_exact (IsDeclarator.named {l} {ts} {mid} {rest} {base = a} {a = b} {b = c} {text} h free k) flat depth =
    let pointers = stars_exact h depth in
    let lens = outer_exact k depth in
    let high = outer_high k in
    record {
      fits = λ q. declarator_parts depth l a b text ts mid (pointers.fits (omega (arith, high, q))) free ∙ rw (lens.fits q) refl;
      deep = λ q. elim (cases_lt depth (type_nesting b)) [
        | inl r ↦ declarator_stars depth a ts (pointers.deep (omega (arith, r, flat)))
        | inr r ↦ declarator_parts depth l a b text ts mid (pointers.fits (omega (arith, r))) free ∙ rw (lens.deep q) refl
      ];
    }

-- ---- parameters

pub param_name_read : {ts rest : Tokens} {called : Option Bytes} → IsParamName ts called rest → param_name ts ≡ Ok (called, rest)
unfolding param_name sees_name
param_name_read (IsParamName.named {l} {text} {rest} free) = rw (free, read_name_at text l rest free) refl
param_name_read (IsParamName.unnamed {rest} h) = rw h refl

param_begun : (depth : ℕ) (b a : RawType) (called : Option Bytes) (ts m1 mid rest : Tokens) → base ts ≡ Ok (b, m1) → stars depth b m1 ≡ Ok (a, mid) → param_name mid ≡ Ok (called, rest)
    → param depth ts ≡ param_end depth (line_of ts) a called rest
unfolding param
param_begun depth b a called ts m1 mid rest h k j = rw (h, k, j) refl

param_stars : (depth : ℕ) (b : RawType) (ts m1 : Tokens) → base ts ≡ Ok (b, m1) → stars depth b m1 ≡ Err Deep → param depth ts ≡ Err Deep
unfolding param
param_stars depth b ts m1 h k = rw (h, k) refl

-- what follows the name, once the type fits
param_exact_by : {ts mid : Tokens} {a : RawType} {called : Option Bytes} {rest after : Tokens} {p : RawParam} → IsTypeName ts a mid → IsParamName mid called rest → (depth : ℕ)
    → type_nesting a ≤ param_nesting p → (type_nesting a ≤ depth → Exact depth (param_nesting p) (param_end depth (line_of ts) a called rest) p after) → Exact depth (param_nesting p) (param depth ts) p after
param_exact_by {a} {called} {rest} {after} {p} (pointed {ts} {mid = m1} {rest = mid} {base = b} h k) j depth high more =
    let pointers = stars_exact k depth in
    let flat = base_flat h in
    let begun : type_nesting a ≤ depth → param depth ts ≡ param_end depth (line_of ts) a called rest = λ q. param_begun depth b a called ts m1 mid rest (base_read h) (pointers.fits (omega (arith, q))) (param_name_read j) in
    record {
      fits = λ q. begun (omega (arith, q, high)) ∙ (more (omega (arith, q, high))).fits q;
      deep = λ q. elim (cases_lt depth (type_nesting a)) [
        | inl r ↦ param_stars depth b ts m1 (base_read h) (pointers.deep (omega (arith, r, flat)))
        | inr r ↦ begun r ∙ (more r).deep q
      ];
    }

end_plain : (depth line : ℕ) (a : RawType) (called : Option Bytes) (ts : Tokens) → sees Mark (codes "[") ts ≡ false → param_end depth line a called ts ≡ Ok (record { line = line; name = called; shape = a; length = None }, ts)
unfolding param_end
end_plain depth line a called ts h = rw h refl

end_fits : (depth line l : ℕ) (a : RawType) (called : Option Bytes) (n : Option RawExpr) (ts rest : Tokens) → type_nesting a < depth → param_length depth ts ≡ Ok (n, rest)
    → param_end depth line a called (mark (codes "[") l ∷ ts) ≡ Ok (record { line = line; name = called; shape = type.PointerTo a; length = n }, rest)
unfolding param_end sees
end_fits depth line l a called n ts rest p h = rw (h) (grind (arith, nat_tests))

end_full : (depth line l : ℕ) (a : RawType) (called : Option Bytes) (ts : Tokens) → depth ≤ type_nesting a → param_end depth line a called (mark (codes "[") l ∷ ts) ≡ Err Deep
unfolding param_end sees
end_full depth line l a called ts p = grind (arith, nat_tests)

end_deep : (depth line l : ℕ) (a : RawType) (called : Option Bytes) (ts : Tokens) → param_length depth ts ≡ Err Deep → param_end depth line a called (mark (codes "[") l ∷ ts) ≡ Err Deep
unfolding param_end sees
end_deep depth line l a called ts h = rw h (grind (arith, nat_tests))

length_lacks : (depth l : ℕ) (ts : Tokens) → param_length depth (mark (codes "]") l ∷ ts) ≡ Ok (None, ts)
unfolding param_length sees
length_lacks depth l ts = refl

length_given : (depth m : ℕ) (n : RawExpr) (ts rest : Tokens) → sees Mark (codes "]") ts ≡ false → nested depth 1 ts ≡ Ok (n, mark (codes "]") m ∷ rest) → param_length depth ts ≡ Ok (Some n, rest)
unfolding param_length expect sees
length_given depth m n ts rest h k = rw (h, k) refl

length_too_deep : (depth : ℕ) (ts : Tokens) → sees Mark (codes "]") ts ≡ false → nested depth 1 ts ≡ Err Deep → param_length depth ts ≡ Err Deep
unfolding param_length
length_too_deep depth ts h k = rw (h, k) refl

pub param_exact : {ts rest : Tokens} {p : RawParam} → IsParam ts p rest → (depth : ℕ) → Exact depth (param_nesting p) (param depth ts) p rest
param_exact (IsParam.plain {ts} {mid} {rest} {a} {called} h k free) depth =
    param_exact_by h k depth (omega arith) (λ low. record { fits = λ q. end_plain depth (line_of ts) a called rest free; deep = λ q. absurd (omega (arith, low, q)) })
param_exact (IsParam.unsized {l} {m} {ts} {mid} {rest} {a} {called} h k) depth =
    let e = type_nesting-PointerTo a in
    param_exact_by h k depth (omega (arith, e)) (λ _. record {
      fits = λ q. end_fits depth (line_of ts) l a called None _ rest (omega (arith, e, q)) (length_lacks depth m rest);
      deep = λ q. end_full depth (line_of ts) l a called _ (omega (arith, e, q));
    })
param_exact (IsParam.sized {l} {m} {ts} {mid} {next} {rest} {a} {called} {n} h k j) depth =
    let e = type_nesting-PointerTo a in
    let none = (begins_expr j).no_mark (codes "]") refl in
    let one = nested_exact j (bracket_ends m rest) depth in
    param_exact_by h k depth (omega (arith, e)) (λ _. record {
      fits = λ q. end_fits depth (line_of ts) l a called (Some n) next rest (omega (arith, e, q)) (length_given depth m n next rest none (one.fits (omega (arith, e, q))));
      deep = λ q. elim (cases_lt (type_nesting a) depth) [
        | inl r ↦ end_deep depth (line_of ts) l a called next (length_too_deep depth next none (one.deep (omega (arith, e, q, r))))
        | inr r ↦ end_full depth (line_of ts) l a called next r
      ];
    })

-- ---- lists of parameters

pub type_name_shorter : {ts rest : Tokens} {a : RawType} → IsTypeName ts a rest → length rest < length ts
type_name_shorter (pointed h k) = let e = base_shorter h in let f = stars_shorter k in omega (arith, e, f)

pub named_shorter : {ts rest : Tokens} {a : RawTypeName} → NamesType ts a rest → length rest < length ts
named_shorter (starred h k) = let e = base_shorter h in let f = stars_shorter k in omega (arith, e, f)

param_name_shorter : {ts rest : Tokens} {called : Option Bytes} → IsParamName ts called rest → length rest ≤ length ts
param_name_shorter (IsParamName.named free) = omega arith
param_name_shorter (IsParamName.unnamed h) = omega arith

pub param_shorter : {ts rest : Tokens} {p : RawParam} → IsParam ts p rest → length rest < length ts
param_shorter (IsParam.plain h k free) = let e = type_name_shorter h in let f = param_name_shorter k in omega (arith, e, f)
param_shorter (IsParam.unsized h k) = let e = type_name_shorter h in let f = param_name_shorter k in omega (arith, e, f)
param_shorter (IsParam.sized h k j) = let e = type_name_shorter h in let f = param_name_shorter k in let g = shorter j in omega (arith, e, f, g)

pub append_one : (found : List RawParam) (p : RawParam) (ps : List RawParam) → (found ++ p ∷ []) ++ ps ≡ found ++ (p ∷ ps)
append_one [] p ps = refl
append_one (x ∷ xs) p ps = ap (λ ys. x ∷ ys) (append_one xs p ps)

params_closed : (depth turns l : ℕ) (found : List RawParam) (ts : Tokens) → params_from depth (suc turns) found (mark (codes ")") l ∷ ts) ≡ Ok (found, ts)
unfolding params_from sees
params_closed depth turns l found ts = refl

params_one : (depth turns l : ℕ) (found : List RawParam) (ts : Tokens) → params_from depth (suc turns) found (mark (codes ",") l ∷ ts) ≡ and_then (param depth ts) (λ p ts. params_from depth turns (found ++ p ∷ []) ts)
unfolding params_from expect sees
params_one depth turns l found ts = refl

-- a parser of more parameters answers for those of the grammar
record MoreRead (depth turns : ℕ) (found : List RawParam) (ts : Tokens) (ps : List RawParam) (rest : Tokens) : Type 0 where
  fits : params_nesting ps ≤ depth → params_from depth turns found ts ≡ Ok (found ++ ps, rest)
  deep : depth < params_nesting ps → params_from depth turns found ts ≡ Err Deep

more_exact : {ts rest : Tokens} {ps : List RawParam} → IsMoreParams ts ps rest → (depth turns : ℕ) (found : List RawParam) → length ts ≤ turns → MoreRead depth turns found ts ps rest
more_exact (IsMoreParams.closed {l} {rest}) depth zero found enough = absurd (omega arith)
more_exact (IsMoreParams.closed {l} {rest}) depth (suc turns) found enough =
    record { fits = λ q. params_closed depth turns l found rest ∙ ap (λ (ps : List RawParam). Ok (ps, rest)) (sym (append-nil found)); deep = λ q. absurd (omega arith) }
more_exact (IsMoreParams.more {l} {ts} {mid} {rest} {p} {ps} h k) depth zero found enough = absurd (omega arith)
more_exact (IsMoreParams.more {l} {ts} {mid} {rest} {p} {ps} h k) depth (suc turns) found enough =
    let one = param_exact h depth in
    let fewer = param_shorter h in
    let more = more_exact k depth turns (found ++ p ∷ []) (omega (arith, fewer, enough)) in
    record {
      fits = λ q. params_one depth turns l found ts ∙ (rw (one.fits (omega (arith, q))) (more.fits (omega (arith, q))) ∙ ap (λ (all : List RawParam). Ok (all, rest)) (append_one found p ps));
      deep = λ q. params_one depth turns l found ts ∙ elim (cases_lt depth (param_nesting p)) [
        | inl r ↦ rw (one.deep r) refl
        | inr r ↦ rw (one.fits r) (more.deep (omega (arith, q, r)))
      ];
    }

params_empty : (depth l : ℕ) (ts : Tokens) → params depth (mark (codes ")") l ∷ ts) ≡ Ok ([], ts)
unfolding params sees
params_empty depth l ts = refl

params_void : (depth l m : ℕ) (ts : Tokens) → params depth (name (codes "void") l ∷ mark (codes ")") m ∷ ts) ≡ Ok ([], ts)
unfolding params expect sees
params_void depth l m ts = refl

params_some : (depth : ℕ) (ts : Tokens) → BeginsType ts → params depth ts ≡ and_then (param depth ts) (λ p rest. params_from depth (length rest) (p ∷ []) rest)
unfolding params
params_some depth ts b = rw (b.no_mark (codes ")"), b.no_word (codes "void") refl) refl

pub params_exact : {ts rest : Tokens} {ps : List RawParam} → IsParams ts ps rest → (depth : ℕ) → Exact depth (params_nesting ps) (params depth ts) ps rest
params_exact (IsParams.empty {l} {rest}) depth = record { fits = λ q. params_empty depth l rest; deep = λ q. absurd (omega arith) }
params_exact (IsParams.nothing {l} {m} {rest}) depth = record { fits = λ q. params_void depth l m rest; deep = λ q. absurd (omega arith) }
params_exact (IsParams.some {ts} {mid} {rest} {p} {ps} h k) depth =
    let one = param_exact h depth in
    let more = more_exact k depth (length mid) (p ∷ []) (omega arith) in
    record {
      fits = λ q. params_some depth ts (begins_param h) ∙ rw (one.fits (omega (arith, q))) (more.fits (omega (arith, q)));
      deep = λ q. params_some depth ts (begins_param h) ∙ elim (cases_lt depth (param_nesting p)) [
        | inl r ↦ rw (one.deep r) refl
        | inr r ↦ rw (one.fits r) (more.deep (omega (arith, q, r)))
      ];
    }
