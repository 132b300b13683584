-- Tokens in front of others, among which no left-out construct is told, form by form: heads and items.
use Rattle.std.proofs.Common.{◌≡◌, ℕ, ◌+◌, ◌-◌, [], ◌∷◌, Bool, true, false, not, ◌&&◌, ◌||◌, codes, Option, Some, refl, sym, ap, ◌∙◌, true≢false}
use Rattle.std.specs.Option.{option_map_or}
use Rattle.std.proofs.lemmas.Bool.{and_parts}
use Rattle.c_tree.specs.declared.raw.expr.RawType.{RawType, fold-roll-RawType}
use Rattle.c_tree.specs.declared.raw.expr.RawType.TheOpen.{RawType-F}
use Rattle.c_tree.specs.declared.raw.expr.RawType.TheVariants as type
use Rattle.c_tree.specs.declared.raw.expr.RawVar.{RawVar}
use Rattle.c_tree.specs.declared.raw.program.RawItem.{RawItem}
use Rattle.c_tree.specs.declared.raw.program.RawParam.{RawParam}
use Rattle.c_language.specs.Words.{Bytes}
use Rattle.c_language.specs.TokenForms.{Tokens, of_kind, name, mark}
use Rattle.c_language.specs.Sees.{is_some_token, sees, sees_second, is_keyword}
use Rattle.c_language.specs.TypeGrammar.{IsBase, structure, integer, IsStars, IsTypeName, pointed, IsDeclarator, IsParamName, unnamed, IsParam, plain, unsized, sized}
use Rattle.c_language.specs.ItemGrammar.{IsGlobal, IsStatic, IsResult, header}
use Rattle.c_language.specs.LeftOut.{open_braces, begins_param, names_param}
use Rattle.c_language.specs.Syntax.{is_struct, struct_step, is_result}
use Rattle.c_language.specs.declared.token.Token.{Token}
use Rattle.c_language.specs.declared.token.TokenKind.TheVariants.{Name, Mark, Include}
use Rattle.c_language.specs.declared.token.TokenKind.{TokenKind}
use Rattle.text_syntax.proofs.CalmTokens.{AreUntold, AreCalm, done, more, calm_then, calm_braces, name_calm, expr_calm, int_calm, include_untold}
use Rattle.text_syntax.proofs.Exprs.{stars_calm}
use Rattle.text_syntax.proofs.Statements.{name_level, end_level, opens_level, closes_level, stands_opened, inside_at, Inside}
use Rattle.text_syntax.proofs.Clear.{Behind, Clear, ClearInside, ClearBody, NoParam, base_clear, calm_clear, calm_static, calm_void, declarator_calm, declarator_no_function, end_clear, function_follows, inside_opened, inside_param, mark_here, opened_back, word_here}

-- ---- heads of functions

struct-Struct : (tag : Bytes) → is_struct (type.Struct tag) ≡ true
struct-Struct tag = ap is_struct (sym (type.rolls-Struct tag)) ∙ fold-roll-RawType Bool struct_step (RawType-F.Struct tag)

not_true : (b : Bool) → not b ≡ true → b ≡ true → ⊥
not_true true h k = true≢false (sym h)
not_true false h k = true≢false (sym k)

star_no_param : (l : ℕ) (ts : Tokens) (tag : Bytes) (m : ℕ) → names_param (name tag m ∷ mark (codes "*") l ∷ ts) ≡ false
unfolding names_param
star_no_param l ts tag m = refl

star_no_function : (l : ℕ) (ts : Tokens) → function_follows (mark (codes "*") l ∷ ts) ≡ false
star_no_function l ts = refl

elsewhere_param : (before mid : Tokens) → begins_param before ≡ false → NoParam before mid
elsewhere_param before mid h z b tag l n = true≢false (sym b ∙ h)

result_clear : {t : Option RawType} {ts rest : Tokens} → IsResult ts t rest → option_map_or is_result t true ≡ true → (before : Tokens) → begins_param before ≡ false → Behind before rest → AreUntold before ts
result_clear IsResult.nothing f before b k = calm_clear (more calm_void done) before k
result_clear (IsResult.some (pointed (structure {tag = tag} g) (IsStars.done h))) f before b k = absurd (not_true (is_struct (type.Struct tag)) (and_parts _ (not (is_struct (type.Struct tag))) f).1 (struct-Struct tag))
result_clear (IsResult.some (pointed (structure g) (IsStars.star {l} {ts = ts} h))) f before b k =
    base_clear (structure g) (star_no_function l ts) before (elsewhere_param before _ b) (λ a u. calm_clear (stars_calm (IsStars.star h)) a (λ c v. k c (v ∙ u)))
result_clear (IsResult.some (pointed (integer g) h)) f before b k = calm_clear (calm_then (int_calm g) (stars_calm h)) before k

called_calm : {ts rest : Tokens} {called : Option Bytes} → IsParamName ts called rest → AreCalm ts rest
called_calm (IsParamName.named {text} k) = more (name_calm text k) done
called_calm (unnamed k) = done

-- a struct with a star begins no parameter that is told
starred_clear : {l m k : ℕ} {tag : Bytes} {ts : Tokens} → is_keyword tag ≡ false → (before : Tokens) → Behind before (mark (codes "*") k ∷ ts) → AreUntold before (name (codes "struct") l ∷ name tag m ∷ mark (codes "*") k ∷ ts)
starred_clear {k = i} {ts = ts} key before k = base_clear (structure key) (star_no_function i ts) before (λ z b tag l n. true≢false (sym n ∙ star_no_param i ts tag l)) k

-- a length in brackets begins none either
bracket_no_param : (l : ℕ) (ts : Tokens) (tag : Bytes) (m : ℕ) → names_param (name tag m ∷ mark (codes "[") l ∷ ts) ≡ false
unfolding names_param
bracket_no_param l ts tag m = refl

named_no_param : (w : Bytes) (i l : ℕ) (ts : Tokens) (tag : Bytes) (m : ℕ) → names_param (name tag m ∷ name w i ∷ mark (codes "[") l ∷ ts) ≡ false
unfolding names_param
named_no_param w i l ts tag m = refl

bracket_clear : {ts mid rest : Tokens} {l : ℕ} {a : RawType} {called : Option Bytes} → IsTypeName ts a mid → IsParamName mid called (mark (codes "[") l ∷ rest) → (before : Tokens) → Behind before (mark (codes "[") l ∷ rest) → AreUntold before ts
bracket_clear {rest = rest} {l} (pointed (structure g) (IsStars.done h)) (IsParamName.named {l = i} {text = w} c) before k =
    base_clear (structure g) refl before (λ z b tag m n. true≢false (sym n ∙ named_no_param w i l rest tag m)) (λ a u. calm_clear (called_calm (IsParamName.named c)) a (λ d v. k d (v ∙ u)))
bracket_clear {rest = rest} {l} (pointed (structure g) (IsStars.done h)) (unnamed c) before k =
    base_clear (structure g) refl before (λ z b tag m n. true≢false (sym n ∙ bracket_no_param l rest tag m)) (λ a u. k a u)
bracket_clear (pointed (structure g) (IsStars.star h)) c before k = starred_clear g before (λ a u. calm_clear (calm_then (stars_calm (IsStars.star h)) (called_calm c)) a (λ d v. k d (v ∙ u)))
bracket_clear (pointed (integer g) h) c before k = calm_clear (calm_then (int_calm g) (calm_then (stars_calm h) (called_calm c))) before k

param_clear : {ts rest : Tokens} {p : RawParam} → IsParam ts p rest → not (is_struct p.shape) ≡ true → (before : Tokens) → Behind before rest → AreUntold before ts
param_clear (plain (pointed (structure {tag = tag} g) (IsStars.done h)) c n) f before k = absurd (not_true (is_struct _) f (struct-Struct tag))
param_clear (plain (pointed (structure g) (IsStars.star h)) c n) f before k = starred_clear g before (λ a u. calm_clear (calm_then (stars_calm (IsStars.star h)) (called_calm c)) a (λ d v. k d (v ∙ u)))
param_clear (plain (pointed (integer g) h) c n) f before k = calm_clear (calm_then (int_calm g) (calm_then (stars_calm h) (called_calm c))) before k
param_clear (unsized h c) f before k = bracket_clear h c before (λ a u. calm_clear (more refl (more refl done)) a (λ d v. k d (v ∙ u)))
param_clear (sized h c j) f before k = bracket_clear h c before (λ a u. calm_clear (more refl (calm_then (expr_calm j) (more refl done))) a (λ d v. k d (v ∙ u)))

pub params_end : (l : ℕ) (rest : Tokens) → Clear (mark (codes ")") l ∷ rest) rest
params_end l rest = record { at = λ before k. calm_clear (more refl done) before k }

pub no_params : (l m : ℕ) (rest : Tokens) → Clear (name (codes "void") l ∷ mark (codes ")") m ∷ rest) rest
no_params l m rest = record { at = λ before k. calm_clear (more calm_void (more refl done)) before k }

pub params_first : {ts mid rest : Tokens} {p : RawParam} → IsParam ts p mid → not (is_struct p.shape) ≡ true → Clear mid rest → Clear ts rest
params_first h n c = record { at = λ before k. param_clear h n before (λ a u. c.at a (λ b v. k b (v ∙ u))) }

pub params_more : {l : ℕ} {ts mid rest : Tokens} {p : RawParam} → IsParam ts p mid → not (is_struct p.shape) ≡ true → Clear mid rest → Clear (mark (codes ",") l ∷ ts) rest
params_more h n c = record { at = λ before k. calm_clear (more refl done) before (λ a u. (params_first h n c).at a (λ b v. k b (v ∙ u))) }

name_begins_none : (w : Bytes) (l : ℕ) (before : Tokens) → begins_param (name w l ∷ before) ≡ false
unfolding begins_param sees
name_begins_none w l before = refl

static_clear : {b : Bool} {ts rest : Tokens} → IsStatic ts b rest → (before : Tokens) → begins_param before ≡ false → ((after : Tokens) → open_braces after ≡ open_braces before → begins_param after ≡ false → AreUntold after rest) → AreUntold before ts
static_clear (IsStatic.static {l} {rest}) before b k = (word_here (codes "static") l before rest calm_static, k (name (codes "static") l ∷ before) (name_level (codes "static") l before) (name_begins_none (codes "static") l before))
static_clear IsStatic.external before b k = k before refl b

-- the head of a function, where no parameter begins
pub record ClearHead (ts rest : Tokens) : Type 0 where
  pub at : (before : Tokens) → begins_param before ≡ false → Behind before rest → AreUntold before ts

pub head_clear : {b : Bool} {w : Bytes} {l m : ℕ} {ts mid next rest : Tokens} {t : Option RawType} → IsStatic ts b mid → IsResult mid t (name w l ∷ mark (codes "(") m ∷ next) → option_map_or is_result t true ≡ true → is_keyword w ≡ false → Clear next rest → ClearHead ts rest
head_clear {w = w} s r is key c = record {
  at = λ before b k. static_clear s before b (λ a u n. result_clear r is a n (λ e v. calm_clear (more (name_calm w key) (more refl done)) e (λ d x. c.at d (λ g y. k g (y ∙ x ∙ v ∙ u)))));
}

-- ---- items

-- between items: no brace is open, and no parameter begins
abbrev Between : Tokens → Tokens → Type 0
Between before rest = (after : Tokens) → open_braces after ≡ open_braces before → begins_param after ≡ false → AreUntold after rest

mark_begins_none : (l : ℕ) (before : Tokens) → (begins_param (mark (codes ";") l ∷ before) ≡ false) × (begins_param (mark (codes "}") l ∷ before) ≡ false)
unfolding begins_param sees
mark_begins_none l before = (refl, refl)

ended_clear : {l : ℕ} {rest : Tokens} (before after : Tokens) → open_braces after ≡ open_braces before → Between before rest → AreUntold after (mark (codes ";") l ∷ rest)
ended_clear {l} {rest} before after u k = (mark_here (codes ";") l after rest refl, k (mark (codes ";") l ∷ after) (end_level l after ∙ u) (mark_begins_none l after).0)

-- items, behind other items
pub record ClearItems (ts rest : Tokens) : Type 0 where
  pub at : (before : Tokens) → open_braces before ≡ 0 → begins_param before ≡ false → Between before rest → AreUntold before ts

pub items_done : (ts : Tokens) → ClearItems ts ts
items_done ts = record { at = λ before o b k. k before refl b }

pub items_more : {ts mid rest : Tokens} → ClearItems ts mid → ClearItems mid rest → ClearItems ts rest
items_more c d = record { at = λ before o b k. c.at before o b (λ a u e. d.at a (u ∙ o) e (λ g v w. k g (v ∙ u) w)) }

-- ---- structs

-- members up to the brace behind them
pub record ClearMembers (ts rest : Tokens) : Type 0 where
  pub at : (before : Tokens) → Inside before → ((after : Tokens) → open_braces after ≡ open_braces before - 1 → AreUntold after rest) → AreUntold before ts

no_paren : (l : ℕ) (rest : Tokens) → sees Mark (codes "(") (mark (codes ";") l ∷ rest) ≡ false
unfolding sees
no_paren l rest = refl

pub member_clear : {l : ℕ} {ts mid rest : Tokens} {base : RawType} {v : RawVar} → IsBase ts base mid → IsDeclarator mid base v (mark (codes ";") l ∷ rest) → ClearInside ts rest
member_clear {l} {rest = rest} b d = record {
  at = λ before i k. base_clear b (declarator_no_function d (no_paren l rest)) before (inside_param before _ i) (λ a u. calm_clear (declarator_calm d) a (λ e w. end_clear {l = l} before e (w ∙ u) (λ g v s. k g v)));
}

pub members_last : {l : ℕ} {ts rest : Tokens} → ClearInside ts (mark (codes "}") l ∷ rest) → ClearMembers ts rest
members_last {l} {rest = rest} c = record { at = λ before i k. c.at before i (λ a u. (mark_here (codes "}") l a rest refl, k (mark (codes "}") l ∷ a) (closes_level l a ∙ ap (λ (n : ℕ). n - 1) u))) }

pub members_more : {ts mid rest : Tokens} → ClearInside ts mid → ClearMembers mid rest → ClearMembers ts rest
members_more c d = record { at = λ before i k. c.at before i (λ a u. d.at a (inside_at u i) (λ b v. k b (v ∙ ap (λ (n : ℕ). n - 1) u))) }

struct_clear : {l : ℕ} {tag : Bytes} {m : ℕ} {rest : Tokens} (before : Tokens) → begins_param before ≡ false → is_keyword tag ≡ false → function_follows rest ≡ false → Behind before rest → AreUntold before (name (codes "struct") l ∷ name tag m ∷ rest)
struct_clear before b key f k = base_clear (structure key) f before (elsewhere_param before _ b) k

closes_here : (l : ℕ) (rest : Tokens) → sees Mark (codes "}") (mark (codes "}") l ∷ rest) ≡ true
unfolding sees
closes_here l rest = refl

include_begins_none : (t : Token) (before : Tokens) → t.kind ≡ Include → begins_param (t ∷ before) ≡ false
unfolding begins_param sees
include_begins_none t before e = ap (λ (k : TokenKind). is_some_token Mark (codes ",") (Some (of_kind k t.text t.line)) || (is_some_token Mark (codes "(") (Some (of_kind k t.text t.line)) && not (sees_second Name (codes "sizeof") (t ∷ before)))) e

-- ---- the items

pub include_clear : (b : Bool) (l : ℕ) (rest : Tokens) → ClearItems (of_kind Include (header b) l ∷ rest) rest
include_clear is_stdlib l rest = record {
  at = λ before o b k.
      let t = of_kind Include (header is_stdlib) l in
      (include_untold t before rest refl, k (t ∷ before) (calm_braces t before refl) (include_begins_none t before refl));
}

pub tag_clear : {w : Bytes} {l m k : ℕ} {rest : Tokens} → is_keyword w ≡ false → ClearItems (name (codes "struct") l ∷ name w m ∷ mark (codes ";") k ∷ rest) rest
tag_clear {k = n} key = record { at = λ before o b k. struct_clear before b key refl (λ a u. ended_clear {l = n} before a u k) }

pub structure_clear : {w : Bytes} {l m k j : ℕ} {ts rest : Tokens} → is_keyword w ≡ false → ClearMembers ts (mark (codes ";") j ∷ rest) → ClearItems (name (codes "struct") l ∷ name w m ∷ mark (codes "{") k ∷ ts) rest
structure_clear {k = m} {j} {ts} key c = record {
  at = λ before o b k. struct_clear before b key refl (λ a u. (
    mark_here (codes "{") m a ts refl,
    c.at (mark (codes "{") m ∷ a) (inside_opened m a) (λ d v. ended_clear {l = j} before d (v ∙ opened_back m a ∙ u) k),
  ));
}

pub global_no_function : {line : ℕ} {is_static : Bool} {base : RawType} {ts rest : Tokens} {x : RawItem} → IsGlobal line is_static base ts x rest → sees Mark (codes "(") rest ≡ false → function_follows ts ≡ false
unfolding sees
global_no_function (IsGlobal.plain d p) h = declarator_no_function d h
global_no_function (IsGlobal.value d p e) h = declarator_no_function d refl
global_no_function (IsGlobal.list d j) h = declarator_no_function d refl

pub global_clear : {b : Bool} {l : ℕ} {ts mid next rest : Tokens} {base : RawType} → IsStatic ts b mid → IsBase mid base next → function_follows next ≡ false → Clear next (mark (codes ";") l ∷ rest) → ClearItems ts rest
global_clear {l = l} s d n c = record {
  at = λ before o b k. static_clear s before b (λ a u e. base_clear d n a (elsewhere_param a _ e) (λ g v. c.at g (λ x w. ended_clear {l = l} before x (w ∙ v ∙ u) k)));
}

pub prototype_clear : {l : ℕ} {ts rest : Tokens} → ClearHead ts (mark (codes ";") l ∷ rest) → ClearItems ts rest
prototype_clear {l} c = record { at = λ before o b k. c.at before b (λ a u. ended_clear {l = l} before a u k) }

pub definition_clear : {l m : ℕ} {ts mid rest : Tokens} → ClearHead ts (mark (codes "{") l ∷ mid) → ClearBody mid (mark (codes "}") m ∷ rest) → ClearItems ts rest
definition_clear {l} {m} {mid = mid} {rest} c d = record {
  at = λ before o b k. c.at before b (λ a u. (
    mark_here (codes "{") l a mid refl,
    d.at (mark (codes "{") l ∷ a) (opens_level l a ∙ ap (λ (x : ℕ). x + 1) (u ∙ o)) (stands_opened l a) (closes_here m rest) (λ e v.
        (mark_here (codes "}") m e rest refl, k (mark (codes "}") m ∷ e) (closes_level m e ∙ ap (λ (x : ℕ). x - 1) v ∙ opened_back l a ∙ u) (mark_begins_none m e).1)),
  ));
}

begins : (open_braces [] ≡ 0) × (begins_param [] ≡ false)
unfolding open_braces begins_param sees
begins = (refl, refl)

-- among the tokens of a text none is told
pub all_clear : {ts : Tokens} → ClearItems ts [] → AreUntold [] ts
all_clear c = c.at [] begins.0 begins.1 (λ after u b. tt)
