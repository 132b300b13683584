-- The lines of items: how they are joined, and what is read of a text.
use Rattle.std.proofs.Common.{◌≡◌, ℕ, List, [], ◌∷◌, ◌++◌, map, replicate, append_assoc, refl, sym, ap, ◌∙◌, Bool, true, false, ◌&&◌, codes, Option}
use Rattle.c_tree.specs.declared.raw.expr.RawType.{RawType}
use Rattle.c_tree.specs.declared.raw.program.RawParam.{RawParam}
use Rattle.c_tree.specs.declared.raw.program.RawHead.{RawHead}
use Rattle.c_tree.specs.declared.raw.program.RawItem.{RawItem}
use Rattle.c_tree.specs.declared.raw.program.RawItem.TheVariants as item
use Rattle.c_tree.specs.declared.raw.program.RawProgram.{RawProgram}
use Rattle.c_language.specs.Words.{Bytes}
use Rattle.c_language.specs.Layout.{static_words}
use Rattle.c_language.specs.Layout.{line as whole_line}
use Rattle.c_language.specs.DeclaredTypes.{item_count}
use Rattle.c_language.specs.TokenForms.{Tokens, name, mark}
use Rattle.c_language.specs.TypeGrammar.{IsBase, pointed_n}
use Rattle.c_language.specs.ItemGrammar.{IsGlobal, IsStatic, static, external, IsHead, is_some, are_named, IsProgram}
use Rattle.c_language.specs.Tokens.{IsTokens}
use Rattle.c_language.specs.declared.token.Before.{Before}
use Rattle.c_language.specs.declared.token.Before.TheVariants.{Blank, Token}
use Rattle.text_syntax.proofs.CalmTokens.{AreUntold}
use Rattle.text_syntax.proofs.Clear.{Clear}
use Rattle.text_syntax.proofs.ClearItems.{ClearHead}
use Rattle.c_text_layout.specs.RawLayout.{raw_base, raw_stars, raw_declared, raw_init_words}
use Rattle.c_text_layout.specs.Settled.{settled_param, settled_head, settled_item, SameInLayout, lack_lengths, item_lacks_lengths, items_lack_lengths}
use Rattle.c_text_layout.proofs.TokenPrint.{print_blank, print_name, word_form}
use Rattle.c_text_layout.proofs.TypePrint.{LaidAsBase, pointed_base, plain_stars}
use Rattle.c_text_layout.proofs.SimplePrint.{Has}
use Rattle.c_text_layout.proofs.StatementPrint.{line_join}

-- ---- heads of functions

-- behind static, or nothing
pub record Static (b : Bool) (R : Tokens → Type 0) (ts : Tokens) : Type 0 where
  pub mid : Tokens
  pub is : IsStatic ts b mid
  pub has : R mid

pub print_static : {line : ℕ} {bytes : Bytes} {R : Tokens → Type 0} (b : Bool) → Has line bytes R → Has line (static_words b ++ bytes) (Static b R)
print_static {line} true x = record {
  tokens = name (codes "static") line ∷ x.tokens;
  lexed = λ before. print_name (codes "static") (word_form (codes "static") refl) (λ c. refl) (print_blank (x.lexed Token));
  is = record { mid = x.tokens; is = static; has = x.is };
}
print_static false x = record { tokens = x.tokens; lexed = x.lexed; is = record { mid = x.tokens; is = external; has = x.is } }

pub result_join : (k : ℕ) (base : RawType) (f more : Bytes) → LaidAsBase base → (raw_base (pointed_n k base) ++ (32 ∷ raw_stars (pointed_n k base))) ++ (f ++ more) ≡ raw_base base ++ (32 ∷ (replicate {A = ℕ} k 42 ++ (f ++ more)))
result_join k base f more p =
    ap (λ (z : Bytes). (z ++ (32 ∷ raw_stars (pointed_n k base))) ++ (f ++ more)) (pointed_base k base)
    ∙ ap (λ (z : Bytes). (raw_base base ++ (32 ∷ z)) ++ (f ++ more)) (plain_stars k base p) ∙ append_assoc (raw_base base) _ (f ++ more)

-- tokens of a head that is the same in all that the layout keeps, and then these
pub record PrintedHead (line : ℕ) (bytes : Bytes) (h : RawHead) (after : Tokens) : Type 0 where
  pub tokens : Tokens
  pub lexed : (before : Before) → IsTokens before line bytes tokens
  pub found : RawHead
  pub is : IsHead tokens found after
  pub same : settled_head found ≡ settled_head h
  pub named : are_named found.params ≡ are_named h.params
  pub bare : lack_lengths found.params ≡ true
  pub clear : ClearHead tokens after

pub head_join : (a r f p more : Bytes) → (a ++ (r ++ (f ++ (40 ∷ (p ++ codes ")"))))) ++ more ≡ a ++ (r ++ (f ++ (40 ∷ (p ++ (41 ∷ more)))))
head_join a r f p more =
    append_assoc a _ more ∙ ap (λ (z : Bytes). a ++ z) (append_assoc r _ more ∙ ap (λ (z : Bytes). r ++ z) (append_assoc f _ more ∙ ap (λ (z : Bytes). f ++ (40 ∷ z)) (append_assoc p (codes ")") more)))

pub named_settled : (ps : List RawParam) → are_named (map settled_param ps) ≡ are_named ps
named_settled [] = refl
named_settled (p ∷ ps) = ap (λ (b : Bool). is_some p.name && b) (named_settled ps)

abbrev pub head_of : Bytes → Option RawType → Bool → List RawParam → RawHead
head_of f t b ps = record { name = f; result = t; params = ps; is_static = b }

-- ---- globals

-- tokens of a global behind static or nothing, the same in all that the layout keeps, and then these
pub record Global (line : ℕ) (is_static : Bool) (x : RawItem) (after : Tokens) (ts : Tokens) : Type 0 where
  pub next : Tokens
  pub base : RawType
  pub found : (l : ℕ) → RawItem
  pub is_base : IsBase ts base next
  pub is : (l : ℕ) → IsGlobal l is_static base next (found l) after
  pub same : (l : ℕ) → settled_item (found l) ≡ settled_item x
  pub bare : (l : ℕ) → item_lacks_lengths (found l) ≡ true
  pub clear : Clear next after

abbrev pub global_words : RawItem → Bytes
global_words (item.Include is_stdlib) = []
global_words (item.Tag l w) = []
global_words (item.Struct l w members) = []
global_words (item.Global l v i is_static) = raw_declared (item_count i) v.shape v.name ++ raw_init_words i
global_words (item.Prototype l h) = []
global_words (item.Define l h body) = []

pub global_join : (a x i tl : Bytes) → whole_line 0 ((a ++ x) ++ (i ++ codes ";")) ++ tl ≡ a ++ ((x ++ i) ++ (59 ∷ 10 ∷ tl))
global_join a x i tl =
    line_join 0 ((a ++ x) ++ (i ++ codes ";")) tl ∙ append_assoc (a ++ x) (i ++ codes ";") (10 ∷ tl) ∙ append_assoc a x ((i ++ codes ";") ++ (10 ∷ tl))
    ∙ ap (λ (z : Bytes). a ++ z) (ap (λ (z : Bytes). x ++ z) (append_assoc i (codes ";") (10 ∷ tl)) ∙ sym (append_assoc x i (59 ∷ 10 ∷ tl)))

-- ---- the other items

-- a semicolon, and then this property
record Ended (R : Tokens → Type 0) (ts : Tokens) : Type 0 where
  line : ℕ
  rest : Tokens
  at : ts ≡ mark (codes ";") line ∷ rest
  has : R rest

pub struct_join : (f body tl : Bytes) → (whole_line 0 (codes "struct " ++ (f ++ codes " {")) ++ (body ++ whole_line 0 (codes "};"))) ++ tl ≡ codes "struct" ++ (32 ∷ (f ++ (32 ∷ 123 ∷ 10 ∷ (body ++ (125 ∷ 59 ∷ 10 ∷ tl)))))
struct_join f body tl =
    append_assoc (whole_line 0 (codes "struct " ++ (f ++ codes " {"))) (body ++ whole_line 0 (codes "};")) tl ∙ line_join 0 (codes "struct " ++ (f ++ codes " {")) ((body ++ whole_line 0 (codes "};")) ++ tl)
    ∙ ap (λ (z : Bytes). codes "struct " ++ z) (append_assoc f (codes " {") (10 ∷ ((body ++ whole_line 0 (codes "};")) ++ tl)) ∙ ap (λ (z : Bytes). f ++ (32 ∷ 123 ∷ 10 ∷ z)) (append_assoc body (whole_line 0 (codes "};")) tl))

pub tag_join : (f tl : Bytes) → whole_line 0 (codes "struct " ++ (f ++ codes ";")) ++ tl ≡ codes "struct" ++ (32 ∷ (f ++ (59 ∷ 10 ∷ tl)))
tag_join f tl = line_join 0 (codes "struct " ++ (f ++ codes ";")) tl ∙ ap (λ (z : Bytes). codes "struct " ++ z) (append_assoc f (codes ";") (10 ∷ tl))

pub prototype_join : (h tl : Bytes) → whole_line 0 (h ++ codes ";") ++ tl ≡ h ++ (59 ∷ 10 ∷ tl)
prototype_join h tl = line_join 0 (h ++ codes ";") tl ∙ append_assoc h (codes ";") (10 ∷ tl)

pub definition_join : (h body tl : Bytes) → (whole_line 0 (h ++ codes " {") ++ (body ++ whole_line 0 (codes "}"))) ++ tl ≡ h ++ (32 ∷ 123 ∷ 10 ∷ (body ++ (125 ∷ 10 ∷ tl)))
definition_join h body tl =
    append_assoc (whole_line 0 (h ++ codes " {")) (body ++ whole_line 0 (codes "}")) tl ∙ line_join 0 (h ++ codes " {") ((body ++ whole_line 0 (codes "}")) ++ tl)
    ∙ append_assoc h (codes " {") (10 ∷ ((body ++ whole_line 0 (codes "}")) ++ tl)) ∙ ap (λ (z : Bytes). h ++ (32 ∷ 123 ∷ 10 ∷ z)) (append_assoc body (whole_line 0 (codes "}")) tl)

-- ---- the law

-- from this line on, the text has tokens of a tree that is the same in all that the layout keeps
pub record ReadsAs (line : ℕ) (text : Bytes) (raw : RawProgram) : Type 0 where
  pub tokens : Tokens
  pub found : RawProgram
  pub lexed : IsTokens Blank line text tokens
  pub is : IsProgram tokens found
  pub same : SameInLayout found raw
  pub bare : items_lack_lengths found.items ≡ true
  pub untold : AreUntold [] tokens
