-- What is printed of types, declarators and parameters that are syntax has their tokens.
use Rattle.std.proofs.Common.{◌≡◌, ℕ, suc, List, [], ◌∷◌, ◌++◌, map, replicate, append_assoc, refl, sym, ap, ap₂, ◌∙◌, subst, Bool, true, false, ◌&&◌, not, codes, decimal, Option, Some, None}
use Rattle.std.specs.Prelude.{nat_lt}
use Rattle.std.specs.List.{list_all}
use Rattle.std.specs.Option.{option_map_or}
use Rattle.std.proofs.lemmas.Bool.{and_parts}
use Rattle.c_arith.specs.declared.int_type.IntType.{IntType}
use Rattle.c_tree.specs.declared.raw.expr.RawExpr.{RawExpr}
use Rattle.c_tree.specs.declared.raw.expr.RawLength.{RawLength}
use Rattle.c_tree.specs.declared.raw.expr.RawLength.TheVariants.{Written, Listed}
use Rattle.c_tree.specs.declared.raw.expr.RawType.{RawType, roll-RawType, map-RawType, fold-roll-RawType}
use Rattle.c_tree.specs.declared.raw.expr.RawType.TheOpen.{RawType-F}
use Rattle.c_tree.specs.declared.raw.expr.RawType.TheVariants as type
use Rattle.c_tree.specs.declared.raw.expr.RawVar.{RawVar}
use Rattle.c_tree.specs.declared.raw.program.RawParam.{RawParam}
use Rattle.c_tree.specs.declared.raw.statement.RawTypeName.{RawTypeName}
use Rattle.c_tree.proofs.RawTrees.{TypeParts, type_layer, of_every_type}
use Rattle.c_language.specs.Words.{Bytes, spaced_stars}
use Rattle.c_language.specs.TokenForms.{Tokens, name, mark, line_of}
use Rattle.c_language.specs.Tokens.{name_goes_on, IsTokens}
use Rattle.c_language.specs.Sees.{sees}
use Rattle.c_language.specs.IntWords.{sees_int_word}
use Rattle.c_language.specs.ExprGrammar.{conditional_level}
use Rattle.c_language.specs.TypeGrammar.{IsBase, IsTypeName, pointed_n, named_type, NamesType, IsLengths, IsOuterLengths, IsDeclarator, IsParamName, IsParam, IsMoreParams, IsParams}
use Rattle.c_language.specs.Layout.{params_words}
use Rattle.c_language.specs.Spellings.{is_own_name}
use Rattle.c_language.specs.Syntax.{is_expr, Extent, bare, starred, sized, listed, takes_stars, takes_lengths, takes_list, reaches_step, reaches, is_struct, is_type_name, is_param}
use Rattle.c_language.specs.declared.token.TokenKind.TheVariants.{Number, Mark}
use Rattle.c_language.specs.declared.token.Before.TheVariants.{Token}
use Rattle.c_language.proofs.Tests.{false_true}
use Rattle.text_syntax.proofs.Forms.{type_by}
use Rattle.text_syntax.proofs.TypeTokens.{own_parts}
use Rattle.text_syntax.proofs.ClearItems.{params_end, params_first, params_more}
use Rattle.c_text_layout.specs.RawLayout.{raw_base, raw_stars, raw_length_words, raw_lengths, raw_declared, raw_type_words, raw_named_words, raw_param_words}
use Rattle.c_text_layout.specs.Settled.{settled_length, settled_type, settled_param}
use Rattle.c_text_layout.specs.SpacedWords.{spaced_words}
use Rattle.c_text_layout.proofs.Written.{HasForm}
use Rattle.c_text_layout.proofs.SpelledForms.{name_form}
use Rattle.c_text_layout.proofs.RawTypeLemmas.{raw_base-Integer, raw_base-Array, raw_base-Struct, raw_stars-Integer, raw_stars-Array, raw_stars-Struct, raw_lengths-Integer, raw_lengths-Array, raw_lengths-Struct, settled_type-Integer, settled_type-Array, settled_type-Struct}
use Rattle.c_text_layout.proofs.TokenPrint.{print_blank, print_mark, Stops, print_name, word_form}
use Rattle.c_text_layout.proofs.ExprPrint.{print_int}
use Rattle.c_text_layout.proofs.ExprTexts.{expr_text}
use Rattle.c_text_layout.proofs.TypePrint.{PrintedBase, LaidAsBase, name_no_int, pointed_more, pointed_base, pointed_lengths, pointed_stays, plain_stars, print_stars, PrintedLengths, length_join, length_twice, PrintedFirst, print_listed, name_sure, name_no_star, print_spaced, spaced_stops, Closes, closes_paren, closes_comma, type_join, PrintedStarred, PrintedName, PrintedParam, declared_join, param_of, PrintedMore, PrintedParams, more_params, params_apart, comma_join, print_void}
use Rattle.c_text_layout.proofs.DeclaredPrint.{PrintedNamed, named_join}

-- ---- types, taken apart

-- a type that stands before declarators
pub data Basic : RawType → Type 0 where
  integer : (t : IntType) → Basic (type.Integer t)
  structure : (tag : Bytes) → is_own_name tag ≡ true → Basic (type.Struct tag)

pub basic_laid : {a : RawType} → Basic a → LaidAsBase a
basic_laid (integer t) = record { no_stars = raw_stars-Integer t; no_lengths = λ n. raw_lengths-Integer n t; stays = λ n. settled_type-Integer n t }
basic_laid (structure tag h) = record { no_stars = raw_stars-Struct tag; no_lengths = λ n. raw_lengths-Struct n tag; stays = λ n. settled_type-Struct n tag }

abbrev Bare : RawType → Type 0
Bare a = reaches a bare ≡ true → Basic a

bare_layer : (y : TypeParts Bare) → reaches_step (map-RawType RawType (Extent → Bool) reaches (type_layer Bare y)) bare ≡ true → Basic (roll-RawType (type_layer Bare y))
bare_layer (RawType-F.Integer t) h = subst Basic (sym (type.rolls-Integer t)) (integer t)
bare_layer (RawType-F.Struct tag) h = subst Basic (sym (type.rolls-Struct tag)) (structure tag h)
bare_layer (RawType-F.PointerTo a) h = false_true h
bare_layer (RawType-F.Array a (Written e)) h = false_true h
bare_layer (RawType-F.Array a Listed) h = false_true h

-- a type that takes neither stars nor lengths is a base
basic_type : (a : RawType) → Bare a
basic_type = of_every_type Bare (λ y h. bare_layer y (ap (λ (f : Extent → Bool). f bare) (sym (fold-roll-RawType (Extent → Bool) reaches_step (type_layer Bare y))) ∙ h))

-- stars upon a base
pub record Starred (a : RawType) : Type 0 where
  pub base : RawType
  pub basic : Basic base
  pub stars : ℕ
  pub same : a ≡ pointed_n stars base

abbrev Plain : RawType → Type 0
Plain a = (x : Extent) → takes_lengths x ≡ false → reaches a x ≡ true → Starred a

no_list : (x : Extent) → takes_lengths x ≡ false → takes_list x ≡ false
no_list bare h = h
no_list starred h = h
no_list sized h = absurd cc
no_list listed h = absurd cc

starred_layer : (y : TypeParts Plain) (x : Extent) → takes_lengths x ≡ false → reaches_step (map-RawType RawType (Extent → Bool) reaches (type_layer Plain y)) x ≡ true → Starred (roll-RawType (type_layer Plain y))
starred_layer (RawType-F.Integer t) x n h = record { base = type.Integer t; basic = integer t; stars = 0; same = type.rolls-Integer t }
starred_layer (RawType-F.Struct tag) x n h = record { base = type.Struct tag; basic = structure tag h; stars = 0; same = type.rolls-Struct tag }
starred_layer (RawType-F.PointerTo a) x n h =
    let y = a.1 starred refl (and_parts (takes_stars x) (reaches a.0 starred) h).1 in
    record { base = y.base; basic = y.basic; stars = suc y.stars; same = type.rolls-PointerTo a.0 ∙ ap type.PointerTo y.same ∙ pointed_more y.stars y.base }
starred_layer (RawType-F.Array a (Written e)) x n h = false_true (sym n ∙ (and_parts (takes_lengths x) _ h).0)
starred_layer (RawType-F.Array a Listed) x n h = false_true (sym (no_list x n) ∙ (and_parts (takes_list x) (reaches a.0 sized) h).0)

-- a type that takes no lengths is a base with stars
pub starred_type : (a : RawType) → Plain a
starred_type = of_every_type Plain (λ y x n h. starred_layer y x n (ap (λ (f : Extent → Bool). f x) (sym (fold-roll-RawType (Extent → Bool) reaches_step (type_layer Plain y))) ∙ h))

-- arrays of an element, with these lengths, the outermost first
abbrev pub arrays : List RawExpr → RawType → RawType
arrays [] a = a
arrays (n ∷ ns) a = type.Array (arrays ns a) (Written n)

-- lengths upon stars upon a base
pub record Lengthy (a : RawType) : Type 0 where
  pub base : RawType
  pub basic : Basic base
  pub stars : ℕ
  pub lengths : List RawExpr
  pub each : list_all is_expr lengths ≡ true
  pub same : a ≡ arrays lengths (pointed_n stars base)

lengthy : {a : RawType} → Starred a → Lengthy a
lengthy x = record { base = x.base; basic = x.basic; stars = x.stars; lengths = []; each = refl; same = x.same }

abbrev Sized : RawType → Type 0
Sized a = (x : Extent) → takes_list x ≡ false → reaches a x ≡ true → Lengthy a

lengthy_layer : (y : TypeParts Sized) (x : Extent) → takes_list x ≡ false → reaches_step (map-RawType RawType (Extent → Bool) reaches (type_layer Sized y)) x ≡ true → Lengthy (roll-RawType (type_layer Sized y))
lengthy_layer (RawType-F.Integer t) x n h = lengthy (starred_type (roll-RawType (RawType-F.Integer t)) bare refl (type_by bare (RawType-F.Integer t) refl h))
lengthy_layer (RawType-F.Struct tag) x n h = lengthy (starred_type (roll-RawType (RawType-F.Struct tag)) bare refl (type_by bare (RawType-F.Struct tag) refl h))
lengthy_layer (RawType-F.PointerTo a) x n h =
    lengthy (starred_type (roll-RawType (RawType-F.PointerTo a.0)) starred refl (type_by starred (RawType-F.PointerTo a.0) refl (and_parts (takes_stars x) (reaches a.0 starred) h).1))
lengthy_layer (RawType-F.Array a (Written e)) x n h =
    let p = and_parts (reaches a.0 sized) (is_expr e) (and_parts (takes_lengths x) _ h).1 in
    let y = a.1 sized refl p.0 in
    record {
      base = y.base;
      basic = y.basic;
      stars = y.stars;
      lengths = e ∷ y.lengths;
      each = ap₂ (λ (b c : Bool). b && c) p.1 y.each;
      same = type.rolls-Array a.0 (Written e) ∙ ap (λ (z : RawType). type.Array z (Written e)) y.same;
    }
lengthy_layer (RawType-F.Array a Listed) x n h = false_true (sym n ∙ (and_parts (takes_list x) (reaches a.0 sized) h).0)

-- a type whose lengths are all written
pub lengthy_type : (a : RawType) → Sized a
lengthy_type = of_every_type Sized (λ y x n h. lengthy_layer y x n (ap (λ (f : Extent → Bool). f x) (sym (fold-roll-RawType (Extent → Bool) reaches_step (type_layer Sized y))) ∙ h))

-- a type whose first length may be left to a list
pub data Outer (a : RawType) : Type 0 where
  written : Lengthy a → Outer a
  empty : {b : RawType} → a ≡ type.Array b Listed → Lengthy b → Outer a

abbrev Open : RawType → Type 0
Open a = reaches a listed ≡ true → Outer a

outer_layer : (y : TypeParts Open) → reaches_step (map-RawType RawType (Extent → Bool) reaches (type_layer Open y)) listed ≡ true → Outer (roll-RawType (type_layer Open y))
outer_layer (RawType-F.Integer t) h = written (lengthy_type (roll-RawType (RawType-F.Integer t)) sized refl (type_by sized (RawType-F.Integer t) refl h))
outer_layer (RawType-F.Struct tag) h = written (lengthy_type (roll-RawType (RawType-F.Struct tag)) sized refl (type_by sized (RawType-F.Struct tag) refl h))
outer_layer (RawType-F.PointerTo a) h = written (lengthy_type (roll-RawType (RawType-F.PointerTo a.0)) sized refl (type_by sized (RawType-F.PointerTo a.0) refl h))
outer_layer (RawType-F.Array a (Written e)) h = written (lengthy_type (roll-RawType (RawType-F.Array a.0 (Written e))) sized refl (type_by sized (RawType-F.Array a.0 (Written e)) refl h))
outer_layer (RawType-F.Array a Listed) h = empty (type.rolls-Array a.0 Listed) (lengthy_type a.0 sized refl h)

pub outer_type : (a : RawType) → Open a
outer_type = of_every_type Open (λ y h. outer_layer y (ap (λ (f : Extent → Bool). f listed) (sym (fold-roll-RawType (Extent → Bool) reaches_step (type_layer Open y))) ∙ h))

-- ---- the type before declarators

pub basic_text : {base : RawType} → Basic base → (line : ℕ) (more : Bytes) (after : Tokens) → Stops name_goes_on more → sees_int_word after ≡ false → IsTokens Token line more after
    → PrintedBase line (raw_base base ++ more) base after
unfolding sees
basic_text (structure tag k) line more after s f h =
    let p = own_parts tag k in
    subst (λ (y : Bytes). PrintedBase line (y ++ more) (type.Struct tag) after) (sym (raw_base-Struct tag))
    (record {
      tokens = name (codes "struct") line ∷ name tag line ∷ after;
      lexed = λ before. print_name (codes "struct") (word_form (codes "struct") refl) (λ b. refl) (print_blank (print_name tag (name_form tag p.0) s h));
      is = IsBase.structure p.1;
      no_else = refl;
    })
basic_text (integer t) line more after s f h =
    let x = print_int t line more after s f h in
    subst (λ (y : Bytes). PrintedBase line (y ++ more) (type.Integer t) after) (sym (raw_base-Integer t))
    (record { tokens = x.tokens; lexed = x.lexed; is = IsBase.integer x.is; no_else = x.no_else })

-- ---- lengths

arrays_stars : (ns : List RawExpr) (a : RawType) → raw_stars (arrays ns a) ≡ raw_stars a
arrays_stars [] a = refl
arrays_stars (n ∷ ns) a = raw_stars-Array (arrays ns a) (Written n) ∙ arrays_stars ns a

arrays_base : (ns : List RawExpr) (a : RawType) → raw_base (arrays ns a) ≡ raw_base a
arrays_base [] a = refl
arrays_base (n ∷ ns) a = raw_base-Array (arrays ns a) (Written n) ∙ arrays_base ns a

arrays_stay : (items : ℕ) (ns : List RawExpr) (a : RawType) → settled_type items a ≡ a → settled_type items (arrays ns a) ≡ arrays ns a
arrays_stay items [] a h = h
arrays_stay items (n ∷ ns) a h = settled_type-Array items (arrays ns a) (Written n) ∙ ap (λ (z : RawType). type.Array z (Written n)) (arrays_stay items ns a h)

arrays_stop : (items : ℕ) (ns : List RawExpr) (a : RawType) (more : Bytes) → raw_lengths items a ≡ [] → Stops name_goes_on more → Stops name_goes_on (raw_lengths items (arrays ns a) ++ more)
arrays_stop items [] a more p s = subst (λ (z : Bytes). Stops name_goes_on (z ++ more)) (sym p) s
arrays_stop items (n ∷ ns) a more p s = subst (λ (z : Bytes). Stops name_goes_on (z ++ more)) (sym (raw_lengths-Array items (arrays ns a) (Written n))) (λ c. refl)

arrays_text : (items : ℕ) (ns : List RawExpr) → list_all is_expr ns ≡ true → (a : RawType) → raw_lengths items a ≡ [] → (line : ℕ) (more : Bytes) (after : Tokens) → sees Mark (codes "[") after ≡ false → IsTokens Token line more after
    → PrintedLengths line (raw_lengths items (arrays ns a) ++ more) a (arrays ns a) after
arrays_text items [] h a p line more after f k = subst (λ (y : Bytes). PrintedLengths line (y ++ more) a a after) (sym p) (record { tokens = after; lexed = k; is = IsLengths.done f })
arrays_text items (n ∷ ns) h a p line more after f k =
    let q = and_parts (is_expr n) (list_all is_expr ns) h in
    let b = arrays ns a in
    let y = arrays_text items ns q.1 a p line more after f k in
    let x = expr_text n conditional_level q.0 line (93 ∷ (raw_lengths items b ++ more)) (mark (codes "]") line ∷ y.tokens) (λ c. refl) (print_mark (codes "]") refl refl y.lexed) in
    subst (λ (z : Bytes). PrintedLengths line z a (type.Array b (Written n)) after)
    (sym (ap (λ (z : Bytes). z ++ more) (raw_lengths-Array items b (Written n)) ∙ length_join (spaced_words n) (raw_lengths items b) more))
    (record { tokens = mark (codes "[") line ∷ x.tokens; lexed = print_mark (codes "[") refl refl (x.lexed Token); is = IsLengths.length x.is y.is })

-- ---- a declared type as it is printed

-- a base, stars, and lengths behind the name, of a type whose list of initialisers has so many items
pub record Parted (items : ℕ) (a : RawType) : Type 0 where
  pub base : RawType
  pub basic : Basic base
  pub stars : ℕ
  pub base_is : raw_base a ≡ raw_base base
  pub stars_are : raw_stars a ≡ replicate {A = ℕ} stars 42
  pub stops : (more : Bytes) → Stops name_goes_on more → Stops name_goes_on (raw_lengths items a ++ more)
  pub printed : (line : ℕ) (more : Bytes) (after : Tokens) → sees Mark (codes "[") after ≡ false → IsTokens Token line more after
      → PrintedFirst line (raw_lengths items a ++ more) (pointed_n stars base) (settled_type items a) after
  -- what is settled stays so
  pub twice : settled_type items (settled_type items a) ≡ settled_type items a

module _ (items : ℕ) {a : RawType} (x : Lengthy a) where
  abbrev element : RawType
  element = pointed_n x.stars x.base

  no_lengths : raw_lengths items element ≡ []
  no_lengths = pointed_lengths items x.stars x.base ((basic_laid x.basic).no_lengths items)

  element_stays : settled_type items (arrays x.lengths element) ≡ arrays x.lengths element
  element_stays = arrays_stay items x.lengths element (pointed_stays items x.stars x.base ((basic_laid x.basic).stays items))

  -- a type whose lengths are all written is settled
  pub lengthy_stays : settled_type items a ≡ a
  lengthy_stays = ap (settled_type items) x.same ∙ element_stays ∙ sym x.same

  lengthy_text : (line : ℕ) (more : Bytes) (after : Tokens) → sees Mark (codes "[") after ≡ false → IsTokens Token line more after → PrintedLengths line (raw_lengths items a ++ more) element a after
  lengthy_text line more after f k = subst (λ (z : RawType). PrintedLengths line (raw_lengths items z ++ more) element z after) (sym x.same) (arrays_text items x.lengths x.each element no_lengths line more after f k)

  pub written_parts : Parted items a
  written_parts = record {
    base = x.base;
    basic = x.basic;
    stars = x.stars;
    base_is = ap raw_base x.same ∙ arrays_base x.lengths element ∙ pointed_base x.stars x.base;
    stars_are = ap raw_stars x.same ∙ arrays_stars x.lengths element ∙ plain_stars x.stars x.base (basic_laid x.basic);
    stops = λ more s. subst (λ (z : RawType). Stops name_goes_on (raw_lengths items z ++ more)) (sym x.same) (arrays_stop items x.lengths element more no_lengths s);
    printed = λ line more after f k.
        let y = lengthy_text line more after f k in
        record { tokens = y.tokens; lexed = y.lexed; is = IsOuterLengths.written (subst (λ (z : RawType). IsLengths y.tokens element z after) (sym lengthy_stays) y.is) };
    twice = ap (settled_type items) lengthy_stays;
  }

listed_parts : (items : ℕ) {a b : RawType} → a ≡ type.Array b Listed → Lengthy b → (nat_lt items 4294967296 ≡ true) × HasForm Number (decimal items) → Parted items a
unfolding written_parts
listed_parts items {a} {b} e x c =
    let q = written_parts items x in
    let kept : settled_type items a ≡ type.Array b (settled_length items Listed) =
    ap (settled_type items) e ∙ settled_type-Array items b Listed ∙ ap (λ (z : RawType). type.Array z (settled_length items Listed)) (lengthy_stays items x) in
    record {
      base = x.base;
      basic = x.basic;
      stars = x.stars;
      base_is = ap raw_base e ∙ raw_base-Array b Listed ∙ q.base_is;
      stars_are = ap raw_stars e ∙ raw_stars-Array b Listed ∙ q.stars_are;
      stops = λ more s. subst (λ (z : Bytes). Stops name_goes_on (z ++ more)) (sym (ap (raw_lengths items) e ∙ raw_lengths-Array items b Listed)) (λ d. refl);
      printed = λ line more after f k.
          let y = lengthy_text items x line more after f k in
          let z = print_listed items (pointed_n x.stars x.base) b line (raw_lengths items b ++ more) after c y.is y.lexed in
          subst (λ (w : Bytes). PrintedFirst line w (pointed_n x.stars x.base) (settled_type items a) after)
          (sym (ap (λ (w : Bytes). w ++ more) (ap (raw_lengths items) e ∙ raw_lengths-Array items b Listed) ∙ length_join (raw_length_words items Listed) (raw_lengths items b) more))
          (record { tokens = z.tokens; lexed = z.lexed; is = subst (λ (w : RawType). IsOuterLengths z.tokens (pointed_n x.stars x.base) w after) (sym kept) z.is });
      twice = ap (settled_type items) kept ∙ settled_type-Array items b (settled_length items Listed)
          ∙ ap₂ (λ (z : RawType) (n : RawLength). type.Array z n) (lengthy_stays items x) (length_twice items) ∙ sym kept;
    }

-- a type before a list of initialisers, whose number of items can be written
pub outer_parts : (items : ℕ) {a : RawType} → Outer a → (nat_lt items 4294967296 ≡ true) × HasForm Number (decimal items) → Parted items a
outer_parts items (written x) c = written_parts items x
outer_parts items (empty e x) c = listed_parts items e x c

-- ---- declared names

pub named_text : {items : ℕ} (v : RawVar) → is_own_name v.name ≡ true → Parted items v.shape → (line : ℕ) (more : Bytes) (after : Tokens) → Stops name_goes_on more → sees Mark (codes "[") after ≡ false → IsTokens Token line more after
    → PrintedNamed items line (raw_declared items v.shape v.name ++ more) v after
named_text {items} v h q line more after s f k =
    let p = own_parts v.name h in
    let form = name_form v.name p.0 in
    let behind : Bytes = raw_lengths items v.shape ++ more in
    let y = q.printed line more after f k in
    let n = print_name {before = Token} v.name form (q.stops more s) y.lexed in
    let x = print_stars q.stars q.base line (v.name ++ behind) (name v.name line ∷ y.tokens) (name_sure v.name behind form) (name_no_star v.name (codes "*") line y.tokens) n in
    let z = basic_text q.basic line (32 ∷ (replicate {A = ℕ} q.stars 42 ++ (v.name ++ behind))) x.tokens (λ d. refl) (x.no_int (name_no_int v.name line y.tokens p.1)) (print_blank x.lexed) in
    subst (λ (w : Bytes). PrintedNamed items line w v after)
    (sym (ap₂ (λ (b w : Bytes). (b ++ (32 ∷ (w ++ (v.name ++ raw_lengths items v.shape)))) ++ more) q.base_is q.stars_are
    ∙ named_join (raw_base q.base) (replicate {A = ℕ} q.stars 42) v.name (raw_lengths items v.shape) more))
    (record { tokens = z.tokens; mid = x.tokens; base = q.base; lexed = z.lexed; is_base = z.is; is = IsDeclarator.named x.is p.1 y.is; no_else = z.no_else })

-- ---- types without a name

starred_text : {base : RawType} (k : ℕ) → Basic base → (line : ℕ) (more : Bytes) (after : Tokens) → Closes more after → IsTokens Token line more after → PrintedStarred line (raw_type_words (pointed_n k base) ++ more) base k after
starred_text {base} k h line more after c t =
    let x = print_stars k base line more after c.sure c.no_star t in
    let y = basic_text h line (spaced_stars (replicate {A = ℕ} k 42) ++ more) x.tokens (spaced_stops k more c.stops) (x.no_int c.no_int) (print_spaced k line more x.tokens x.lexed) in
    subst (λ (z : Bytes). PrintedStarred line z base k after) (sym (type_join k base more (basic_laid h)))
    (record { tokens = y.tokens; mid = x.tokens; lexed = y.lexed; begins = y.is; stars = x.is })

pub type_name_text : (t : RawTypeName) → is_type_name t ≡ true → (line : ℕ) (more : Bytes) (after : Tokens) → Closes more after → IsTokens Token line more after → PrintedName line (raw_type_words (named_type t) ++ more) t after
type_name_text t h line more after c k =
    let x = starred_text t.stars (basic_type t.base h) line more after c k in
    record { tokens = x.tokens; lexed = x.lexed; is = NamesType.starred x.begins x.stars }

-- ---- parameters

called_text : {base : RawType} (k : ℕ) (called : Option Bytes) (p : RawParam) → Basic base → option_map_or is_own_name called true ≡ true → p.name ≡ called → p.shape ≡ pointed_n k base
    → (line : ℕ) (more : Bytes) (after : Tokens) → Closes more after → IsTokens Token line more after → PrintedParam line (raw_named_words called (pointed_n k base) ++ more) p after
called_text {base} k None p h own a b line more after c t =
    let x = starred_text k h line more after c t in
    record {
      tokens = x.tokens;
      lexed = x.lexed;
      found = record { line = line_of x.tokens; name = None; shape = pointed_n k base; length = None };
      is = IsParam.plain (IsTypeName.pointed x.begins x.stars) (IsParamName.unnamed c.no_name) c.no_length;
      same = ap₂ param_of (sym a) (sym b);
      bare = refl;
    }
called_text {base} k (Some text) p h own a b line more after c t =
    let q = own_parts text own in
    let form = name_form text q.0 in
    let n = print_name {before = Token} text form c.stops t in
    let x = print_stars k base line (text ++ more) (name text line ∷ after) (name_sure text more form) (name_no_star text (codes "*") line after) n in
    let y = basic_text h line (32 ∷ (replicate {A = ℕ} k 42 ++ (text ++ more))) x.tokens (λ d. refl) (x.no_int (name_no_int text line after q.1)) (print_blank x.lexed) in
    subst (λ (z : Bytes). PrintedParam line z p after) (sym (declared_join k base text more (basic_laid h)))
    (record {
      tokens = y.tokens;
      lexed = y.lexed;
      found = record { line = line_of y.tokens; name = Some text; shape = pointed_n k base; length = None };
      is = IsParam.plain (IsTypeName.pointed y.is x.is) (IsParamName.named q.1) c.no_length;
      same = ap₂ param_of (sym a) (sym b);
      bare = refl;
    })

param_text : (p : RawParam) → is_param p ≡ true → (line : ℕ) (more : Bytes) (after : Tokens) → Closes more after → IsTokens Token line more after → PrintedParam line (raw_param_words p ++ more) p after
param_text p h line more after c t =
    let q = and_parts (option_map_or is_own_name p.name true) _ (and_parts (option_map_or is_own_name p.name true && (reaches p.shape starred && not (is_struct p.shape))) _ h).0 in
    let x = starred_type p.shape starred refl (and_parts (reaches p.shape starred) (not (is_struct p.shape)) q.1).0 in
    subst (λ (z : RawType). PrintedParam line (raw_named_words p.name z ++ more) p after) (sym x.same) (called_text x.stars p.name p x.basic q.0 refl x.same line more after c t)

-- what is read of a parameter is no struct either
no_struct : (p : RawParam) → is_param p ≡ true → (found : RawParam) → settled_param found ≡ settled_param p → not (is_struct found.shape) ≡ true
no_struct p h found same =
    let q = and_parts (option_map_or is_own_name p.name true && (reaches p.shape starred && not (is_struct p.shape))) _ h in
    ap (λ (z : RawParam). not (is_struct z.shape)) same ∙ (and_parts (reaches p.shape starred) (not (is_struct p.shape)) (and_parts (option_map_or is_own_name p.name true) _ q.0).1).1

more_text : (ps : List RawParam) → list_all is_param ps ≡ true → (line : ℕ) (more : Bytes) (after : Tokens) → IsTokens Token line more after → PrintedMore line (more_params ps ++ (41 ∷ more)) ps after
more_text [] h line more after t =
    record { tokens = mark (codes ")") line ∷ after; lexed = print_mark (codes ")") refl refl t; found = []; is = IsMoreParams.closed; same = refl; bare = refl; closes = closes_paren more line after; clear = params_end line after }
more_text (p ∷ ps) h line more after t =
    let q = and_parts (is_param p) (list_all is_param ps) h in
    let y = more_text ps q.1 line more after t in
    let x = param_text p q.0 line (more_params ps ++ (41 ∷ more)) y.tokens y.closes y.lexed in
    subst (λ (z : Bytes). PrintedMore line z (p ∷ ps) after) (sym (comma_join (raw_param_words p) (more_params ps) (41 ∷ more)))
    (record {
      tokens = mark (codes ",") line ∷ x.tokens;
      lexed = print_mark (codes ",") refl refl (print_blank (x.lexed Token));
      found = x.found ∷ y.found;
      is = IsMoreParams.more x.is y.is;
      same = ap₂ (λ (r : RawParam) (rs : List RawParam). r ∷ rs) x.same y.same;
      bare = ap₂ (λ (b c : Bool). b && c) x.bare y.bare;
      closes = closes_comma _ line x.tokens;
      clear = params_more x.is (no_struct p q.0 x.found x.same) y.clear;
    })

pub params_text : (ps : List RawParam) → list_all is_param ps ≡ true → (line : ℕ) (more : Bytes) (after : Tokens) → IsTokens Token line more after → PrintedParams line (params_words (map raw_param_words ps) ++ (41 ∷ more)) ps after
params_text [] h line more after t = print_void line more after t
params_text (p ∷ ps) h line more after t =
    let q = and_parts (is_param p) (list_all is_param ps) h in
    let y = more_text ps q.1 line more after t in
    let x = param_text p q.0 line (more_params ps ++ (41 ∷ more)) y.tokens y.closes y.lexed in
    subst (λ (z : Bytes). PrintedParams line z (p ∷ ps) after)
    (sym (ap (λ (z : Bytes). z ++ (41 ∷ more)) (params_apart p ps) ∙ append_assoc (raw_param_words p) (more_params ps) (41 ∷ more)))
    (record { tokens = x.tokens; lexed = x.lexed; found = x.found ∷ y.found; is = IsParams.some x.is y.is; same = ap₂ (λ (r : RawParam) (rs : List RawParam). r ∷ rs) x.same y.same; bare = ap₂ (λ (b c : Bool). b && c) x.bare y.bare; clear = params_first x.is (no_struct p q.0 x.found x.same) y.clear })
