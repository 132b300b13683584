-- Tokens of trees that are syntax: types, declarators, and lists of initialisers.
use Rattle.std.proofs.Common.{◌≡◌, ℕ, zero, suc, List, [], ◌∷◌, Bool, true, false, not, codes, refl, sym, ap, subst, ◌∙◌}
use Rattle.std.specs.List.{list_all}
use Rattle.std.proofs.lemmas.Bool.{and_parts, not-true}
use Rattle.c_arith.specs.declared.int_type.IntType.{IntType}
use Rattle.c_arith.specs.declared.int_type.IntType.TheVariants.{Char, UChar, Short, UShort, Int, UInt, Long, ULong}
use Rattle.c_tree.specs.declared.raw.expr.RawExpr.{RawExpr}
use Rattle.c_tree.specs.declared.raw.expr.RawLength.TheVariants.{Written, Listed}
use Rattle.c_tree.specs.declared.raw.expr.RawType.{RawType, roll-RawType, map-RawType, fold-roll-RawType}
use Rattle.c_tree.specs.declared.raw.expr.RawType.TheOpen.{RawType-F}
use Rattle.c_tree.specs.declared.raw.expr.RawType.TheVariants as type
use Rattle.c_tree.specs.declared.raw.expr.RawVar.{RawVar}
use Rattle.c_tree.proofs.RawTrees.{TypeParts, type_layer, of_every_type}
use Rattle.c_language.specs.Words.{Bytes}
use Rattle.c_language.specs.TokenForms.{Tokens, name, mark, line_of}
use Rattle.c_language.specs.Sees.{sees, is_keyword}
use Rattle.c_language.specs.IntWords.{sees_int_word}
use Rattle.c_language.specs.ExprGrammar.{conditional_level}
use Rattle.c_language.specs.TypeGrammar.{IsBase, IsStars, IsLengths, IsOuterLengths, IsDeclarator, pointed_n, listed_step, is_listed}
use Rattle.c_language.specs.StatementGrammar.{IsList}
use Rattle.c_language.specs.Spellings.{is_name, is_own_name}
use Rattle.c_language.specs.Syntax.{is_expr, Extent, bare, starred, sized, listed, takes_stars, takes_lengths, takes_list, reaches_step, reaches, pointer_step, is_pointer, is_declared}
use Rattle.c_language.specs.declared.token.TokenKind.TheVariants.{Mark}
use Rattle.c_language.proofs.Keywords.{no_int_word}
use Rattle.c_language.proofs.Tests.{false_true}
use Rattle.text_syntax.proofs.Forms.{type_by}
use Rattle.text_syntax.proofs.Clear.{ClearList, list_last, list_more}
use Rattle.text_syntax.proofs.Spelled.{AreSpelled}
use Rattle.text_syntax.proofs.TreeTokens.{Tokened, int_tokens, int_is, int_spelled, expr_tokens}

-- ---- bases

-- what may not follow the words of a type
abbrev pub NoIntWord : Tokens → Type 0
NoIntWord r = sees_int_word r ≡ false

-- tokens of the words in front of declarators
pub record Based (l : ℕ) (a : RawType) : Type 0 where
  pub front : Tokens → Tokens
  pub spelled : (r : Tokens) → AreSpelled r → AreSpelled (front r)
  pub line : (r : Tokens) → line_of (front r) ≡ l
  pub is : (r : Tokens) → NoIntWord r → IsBase (front r) a r

pub own_parts : (w : Bytes) → is_own_name w ≡ true → (is_name w ≡ true) × (is_keyword w ≡ false)
own_parts w h = let p = and_parts (is_name w) (not (is_keyword w)) h in (p.0, not-true (is_keyword w) p.1)

-- ---- a type by its base, its stars and its lengths

abbrev pub NoBracket : Tokens → Type 0
NoBracket r = sees Mark (codes "[") r ≡ false

-- how many stars stand upon a base, and lengths upon them
pub record Shaped (l : ℕ) (a : RawType) : Type 0 where
  pub base : RawType
  pub based : Based l base
  pub stars : ℕ
  pub front : Tokens → Tokens
  pub spelled : (r : Tokens) → AreSpelled r → AreSpelled (front r)
  pub is : (r : Tokens) → NoBracket r → IsLengths (front r) (pointed_n stars base) a r

-- a type without lengths
pub record Pointed (l : ℕ) (a : RawType) : Type 0 where
  pub base : RawType
  pub based : Based l base
  pub stars : ℕ
  pub same : pointed_n stars base ≡ a

star_out : (n : ℕ) (a : RawType) → pointed_n n (type.PointerTo a) ≡ type.PointerTo (pointed_n n a)
star_out zero a = refl
star_out (suc n) a = star_out n (type.PointerTo a)

abbrev Plain : RawType → Type 0
Plain a = (l : ℕ) (x : Extent) → takes_lengths x ≡ false → reaches a x ≡ true → Pointed l a

abbrev short_layer : TypeParts Plain → RawType-F RawType
short_layer = type_layer Plain

no_list : (x : Extent) → takes_lengths x ≡ false → takes_list x ≡ false
no_list bare h = h
no_list starred h = h
no_list sized h = absurd cc
no_list listed h = absurd cc

of_base : {l : ℕ} {a b : RawType} → a ≡ b → Based l b → Pointed l a
of_base {l} {a} {b} is x = record { base = b; based = x; stars = 0; same = sym is }

int_line : (t : IntType) (l : ℕ) (r : Tokens) → line_of (int_tokens t l r) ≡ l
int_line Char l r = refl
int_line UChar l r = refl
int_line Short l r = refl
int_line UShort l r = refl
int_line Int l r = refl
int_line UInt l r = refl
int_line Long l r = refl
int_line ULong l r = refl

int_based : (t : IntType) (l : ℕ) → Based l (type.Integer t)
int_based t l = record { front = int_tokens t l; spelled = int_spelled t l; line = λ r. int_line t l r; is = λ r k. IsBase.integer (int_is t l r k) }

struct_based : (tag : Bytes) (l : ℕ) → is_own_name tag ≡ true → Based l (type.Struct tag)
struct_based tag l h =
    let p = own_parts tag h in
    record { front = λ r. name (codes "struct") l ∷ name tag l ∷ r; spelled = λ r k. (refl, (p.0, k)); line = λ r. refl; is = λ r k. IsBase.structure p.1 }

pointed_layer : (y : TypeParts Plain) (l : ℕ) (x : Extent) → takes_lengths x ≡ false → reaches_step (map-RawType RawType (Extent → Bool) reaches (short_layer y)) x ≡ true → Pointed l (roll-RawType (short_layer y))
pointed_layer (RawType-F.Integer t) l x n h = of_base (type.rolls-Integer t) (int_based t l)
pointed_layer (RawType-F.Struct tag) l x n h = of_base (type.rolls-Struct tag) (struct_based tag l h)
pointed_layer (RawType-F.PointerTo a) l x n h =
    let y = a.1 l starred refl (and_parts (takes_stars x) (reaches a.0 starred) h).1 in
    record { base = y.base; based = y.based; stars = suc y.stars; same = star_out y.stars y.base ∙ ap type.PointerTo y.same ∙ sym (type.rolls-PointerTo a.0) }
pointed_layer (RawType-F.Array a (Written e)) l x n h = false_true (sym n ∙ (and_parts (takes_lengths x) _ h).0)
pointed_layer (RawType-F.Array a Listed) l x n h = false_true (sym (no_list x n) ∙ (and_parts (takes_list x) (reaches a.0 sized) h).0)

pub pointed_type : (a : RawType) → Plain a
pointed_type = of_every_type Plain (λ y l x n h. pointed_layer y l x n (ap (λ (f : Extent → Bool). f x) (sym (fold-roll-RawType (Extent → Bool) reaches_step (short_layer y))) ∙ h))

-- ---- types of no star and no length

abbrev Bare : RawType → Type 0
Bare a = (l : ℕ) → reaches a bare ≡ true → Based l a

as_base : {l : ℕ} {a b : RawType} → a ≡ b → Based l b → Based l a
as_base {l} is x = subst (Based l) (sym is) x

bare_layer : (y : TypeParts Bare) (l : ℕ) → reaches_step (map-RawType RawType (Extent → Bool) reaches (type_layer Bare y)) bare ≡ true → Based l (roll-RawType (type_layer Bare y))
bare_layer (RawType-F.Integer t) l h = as_base (type.rolls-Integer t) (int_based t l)
bare_layer (RawType-F.Struct tag) l h = as_base (type.rolls-Struct tag) (struct_based tag l h)
bare_layer (RawType-F.PointerTo a) l h = false_true h
bare_layer (RawType-F.Array a (Written e)) l h = false_true h
bare_layer (RawType-F.Array a Listed) l h = false_true h

pub bare_type : (a : RawType) → Bare a
bare_type = of_every_type Bare (λ y l h. bare_layer y l (ap (λ (f : Extent → Bool). f bare) (sym (fold-roll-RawType (Extent → Bool) reaches_step (type_layer Bare y))) ∙ h))

-- ---- stars

abbrev pub star_tokens : ℕ → ℕ → Tokens → Tokens
star_tokens zero l r = r
star_tokens (suc n) l r = mark (codes "*") l ∷ star_tokens n l r

pub stars_are : (n l : ℕ) (a : RawType) (r : Tokens) → sees Mark (codes "*") r ≡ false → IsStars (star_tokens n l r) a (pointed_n n a) r
stars_are zero l a r h = IsStars.done h
stars_are (suc n) l a r h = IsStars.star (stars_are n l (type.PointerTo a) r h)

pub stars_spelled : (n l : ℕ) (r : Tokens) → AreSpelled r → AreSpelled (star_tokens n l r)
stars_spelled zero l r w = w
stars_spelled (suc n) l r w = (refl, stars_spelled n l r w)

-- ---- lengths

abbrev Sized : RawType → Type 0
Sized a = (l : ℕ) (x : Extent) → takes_list x ≡ false → reaches a x ≡ true → Shaped l a

abbrev long_layer : TypeParts Sized → RawType-F RawType
long_layer = type_layer Sized

-- stars alone
of_pointed : {l : ℕ} {a : RawType} → Pointed l a → Shaped l a
of_pointed {l} {a} x = record {
  base = x.base;
  based = x.based;
  stars = x.stars;
  front = λ r. r;
  spelled = λ r w. w;
  is = λ r h. subst (λ (b : RawType). IsLengths r (pointed_n x.stars x.base) b r) x.same (IsLengths.done h);
}

shaped_layer : (y : TypeParts Sized) (l : ℕ) (x : Extent) → takes_list x ≡ false → reaches_step (map-RawType RawType (Extent → Bool) reaches (long_layer y)) x ≡ true → Shaped l (roll-RawType (long_layer y))
shaped_layer (RawType-F.Integer t) l x n h = of_pointed (pointed_type (roll-RawType (RawType-F.Integer t)) l bare refl (type_by bare (RawType-F.Integer t) refl h))
shaped_layer (RawType-F.Struct tag) l x n h = of_pointed (pointed_type (roll-RawType (RawType-F.Struct tag)) l bare refl (type_by bare (RawType-F.Struct tag) refl h))
shaped_layer (RawType-F.PointerTo a) l x n h =
    of_pointed (pointed_type (roll-RawType (RawType-F.PointerTo a.0)) l starred refl (type_by starred (RawType-F.PointerTo a.0) refl (and_parts (takes_stars x) (reaches a.0 starred) h).1))
shaped_layer (RawType-F.Array a (Written e)) l x n h =
    let p = and_parts (reaches a.0 sized) (is_expr e) (and_parts (takes_lengths x) _ h).1 in
    let s = a.1 l sized refl p.0 in
    let t = expr_tokens e conditional_level l p.1 in
    record {
      base = s.base;
      based = s.based;
      stars = s.stars;
      front = λ r. mark (codes "[") l ∷ t.front (mark (codes "]") l ∷ s.front r);
      spelled = λ r w. (refl, t.spelled (mark (codes "]") l ∷ s.front r) (refl, s.spelled r w));
      is = λ r k. subst (λ (b : RawType). IsLengths (mark (codes "[") l ∷ t.front (mark (codes "]") l ∷ s.front r)) (pointed_n s.stars s.base) b r) (sym (type.rolls-Array a.0 (Written e)))
          (IsLengths.length (t.is (mark (codes "]") l ∷ s.front r)) (s.is r k));
    }
shaped_layer (RawType-F.Array a Listed) l x n h = false_true (sym n ∙ (and_parts (takes_list x) (reaches a.0 sized) h).0)

pub shaped_type : (a : RawType) → Sized a
shaped_type = of_every_type Sized (λ y l x n h. shaped_layer y l x n (ap (λ (f : Extent → Bool). f x) (sym (fold-roll-RawType (Extent → Bool) reaches_step (long_layer y))) ∙ h))

-- ---- lengths of which the first may be left to a list

-- stars upon a base, and lengths upon them, of which the first may be empty
pub record Outer (l : ℕ) (a : RawType) : Type 0 where
  pub base : RawType
  pub based : Based l base
  pub stars : ℕ
  pub front : Tokens → Tokens
  pub spelled : (r : Tokens) → AreSpelled r → AreSpelled (front r)
  pub is : (r : Tokens) → NoBracket r → IsOuterLengths (front r) (pointed_n stars base) a r

outer_of : {l : ℕ} {a : RawType} → Shaped l a → Outer l a
outer_of s = record { base = s.base; based = s.based; stars = s.stars; front = s.front; spelled = s.spelled; is = λ r k. IsOuterLengths.written (s.is r k) }

abbrev Lengthy : RawType → Type 0
Lengthy a = (l : ℕ) → reaches a listed ≡ true → Outer l a

outer_layer : (y : TypeParts Lengthy) (l : ℕ) → reaches_step (map-RawType RawType (Extent → Bool) reaches (type_layer Lengthy y)) listed ≡ true → Outer l (roll-RawType (type_layer Lengthy y))
outer_layer (RawType-F.Integer t) l h = outer_of (shaped_type (roll-RawType (RawType-F.Integer t)) l sized refl (type_by sized (RawType-F.Integer t) refl h))
outer_layer (RawType-F.Struct tag) l h = outer_of (shaped_type (roll-RawType (RawType-F.Struct tag)) l sized refl (type_by sized (RawType-F.Struct tag) refl h))
outer_layer (RawType-F.PointerTo a) l h = outer_of (shaped_type (roll-RawType (RawType-F.PointerTo a.0)) l sized refl (type_by sized (RawType-F.PointerTo a.0) refl h))
outer_layer (RawType-F.Array a (Written e)) l h =
    outer_of (shaped_type (roll-RawType (RawType-F.Array a.0 (Written e))) l sized refl (type_by sized (RawType-F.Array a.0 (Written e)) refl h))
outer_layer (RawType-F.Array a Listed) l h =
    let s = shaped_type a.0 l sized refl h in
    record {
      base = s.base;
      based = s.based;
      stars = s.stars;
      front = λ r. mark (codes "[") l ∷ mark (codes "]") l ∷ s.front r;
      spelled = λ r w. (refl, (refl, s.spelled r w));
      is = λ r k. subst (λ (b : RawType). IsOuterLengths (mark (codes "[") l ∷ mark (codes "]") l ∷ s.front r) (pointed_n s.stars s.base) b r) (sym (type.rolls-Array a.0 Listed))
          (IsOuterLengths.empty (s.is r k));
    }

outer_type : (a : RawType) → Lengthy a
outer_type = of_every_type Lengthy (λ y l h. outer_layer y l (ap (λ (f : Extent → Bool). f listed) (sym (fold-roll-RawType (Extent → Bool) reaches_step (type_layer Lengthy y))) ∙ h))

abbrev Unlisted : RawType → Type 0
Unlisted a = reaches a sized ≡ true → is_listed a ≡ false

unlisted_layer : (y : TypeParts Unlisted) → reaches_step (map-RawType RawType (Extent → Bool) reaches (type_layer Unlisted y)) sized ≡ true
    → listed_step (map-RawType RawType Bool is_listed (type_layer Unlisted y)) ≡ false
unlisted_layer (RawType-F.Integer t) h = refl
unlisted_layer (RawType-F.Struct tag) h = refl
unlisted_layer (RawType-F.PointerTo a) h = refl
unlisted_layer (RawType-F.Array a (Written e)) h = refl
unlisted_layer (RawType-F.Array a Listed) h = false_true h

-- a length that is written is not left to a list
pub unlisted : (a : RawType) → Unlisted a
unlisted = of_every_type Unlisted (λ y h.
    fold-roll-RawType Bool listed_step (type_layer Unlisted y) ∙ unlisted_layer y (ap (λ (f : Extent → Bool). f sized) (sym (fold-roll-RawType (Extent → Bool) reaches_step (type_layer Unlisted y))) ∙ h))

-- ---- pointers

-- what a pointer points to
pub record Pointer (a : RawType) : Type 0 where
  pub to : RawType
  pub is : a ≡ type.PointerTo to
  pub starred_too : reaches to starred ≡ true

abbrev Points : RawType → Type 0
Points a = reaches a starred ≡ true → is_pointer a ≡ true → Pointer a

points_layer : (y : TypeParts Points) → reaches_step (map-RawType RawType (Extent → Bool) reaches (type_layer Points y)) starred ≡ true
    → pointer_step (map-RawType RawType Bool is_pointer (type_layer Points y)) ≡ true → Pointer (roll-RawType (type_layer Points y))
points_layer (RawType-F.Integer t) h k = false_true k
points_layer (RawType-F.Struct tag) h k = false_true k
points_layer (RawType-F.PointerTo a) h k = record { to = a.0; is = type.rolls-PointerTo a.0; starred_too = h }
points_layer (RawType-F.Array a n) h k = false_true k

pub points : (a : RawType) → Points a
points = of_every_type Points (λ y h k. points_layer y
    (ap (λ (f : Extent → Bool). f starred) (sym (fold-roll-RawType (Extent → Bool) reaches_step (type_layer Points y))) ∙ h)
    (sym (fold-roll-RawType Bool pointer_step (type_layer Points y)) ∙ k))

-- ---- declarators

-- the base of a declarator, and its other tokens
pub record Declarator (l : ℕ) (v : RawVar) : Type 0 where
  pub base : RawType
  pub based : Based l base
  pub front : Tokens → Tokens
  pub spelled : (r : Tokens) → AreSpelled r → AreSpelled (front r)
  pub no_int : (r : Tokens) → NoIntWord (front r)
  pub is : (r : Tokens) → NoBracket r → IsDeclarator (front r) base v r

name_no_star : (w : Bytes) (l : ℕ) (r : Tokens) → sees Mark (codes "*") (name w l ∷ r) ≡ false
unfolding sees
name_no_star w l r = refl

stars_no_int : (n l : ℕ) (w : Bytes) (r : Tokens) → is_keyword w ≡ false → NoIntWord (star_tokens n l (name w l ∷ r))
unfolding sees_int_word
stars_no_int zero l w r h = no_int_word w h
stars_no_int (suc n) l w r h = refl

declarator_of : {l : ℕ} (v : RawVar) → is_own_name v.name ≡ true → Outer l v.shape → Declarator l v
declarator_of {l} v h s =
    let p = own_parts v.name h in
    record {
      base = s.base;
      based = s.based;
      front = λ r. star_tokens s.stars l (name v.name l ∷ s.front r);
      spelled = λ r w. stars_spelled s.stars l (name v.name l ∷ s.front r) (p.0, s.spelled r w);
      no_int = λ r. stars_no_int s.stars l v.name (s.front r) p.1;
      is = λ r k. IsDeclarator.named (stars_are s.stars l s.base (name v.name l ∷ s.front r) (name_no_star v.name l (s.front r))) p.1 (s.is r k);
    }

-- a declarator whose lengths are all written
pub sized_declarator : (l : ℕ) (v : RawVar) → is_declared v sized ≡ true → Declarator l v
sized_declarator l v h = let p = and_parts (is_own_name v.name) (reaches v.shape sized) h in declarator_of v p.0 (outer_of (shaped_type v.shape l sized refl p.1))

-- a declarator before a list
pub listed_declarator : (l : ℕ) (v : RawVar) → is_declared v listed ≡ true → Declarator l v
listed_declarator l v h = let p = and_parts (is_own_name v.name) (reaches v.shape listed) h in declarator_of v p.0 (outer_type v.shape l p.1)

-- ---- lists of initialisers

pub list_tokens : (l : ℕ) (a : RawExpr) (all : List RawExpr) → list_all is_expr (a ∷ all) ≡ true → Tokened (λ ts r. IsList ts (a ∷ all) r × ClearList ts r) l
list_tokens l a [] h =
    let x = expr_tokens a conditional_level l (and_parts (is_expr a) true h).0 in
    record {
      front = λ r. x.front (mark (codes "}") l ∷ r);
      spelled = λ r w. x.spelled (mark (codes "}") l ∷ r) (refl, w);
      line = λ r. x.line (mark (codes "}") l ∷ r);
      is = λ r. let i = x.is (mark (codes "}") l ∷ r) in (IsList.last i, list_last i);
    }
list_tokens l a (b ∷ all) h =
    let p = and_parts (is_expr a) (list_all is_expr (b ∷ all)) h in
    let x = expr_tokens a conditional_level l p.0 in
    let y = list_tokens l b all p.1 in
    record {
      front = λ r. x.front (mark (codes ",") l ∷ y.front r);
      spelled = λ r w. x.spelled (mark (codes ",") l ∷ y.front r) (refl, y.spelled r w);
      line = λ r. x.line (mark (codes ",") l ∷ y.front r);
      is = λ r.
          let i = x.is (mark (codes ",") l ∷ y.front r) in
          let k = y.is r in
          (IsList.more i k.0, list_more i k.1);
    }
