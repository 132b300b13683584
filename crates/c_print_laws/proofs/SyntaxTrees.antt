-- A tree that is syntax is the tree of some tokens, and well-formed programs are those that have such trees.
use Rattle.std.proofs.Common.{◌≡◌, ℕ, [], ◌∷◌, ◌++◌, length, Bool, true, codes, refl, sym, ap, subst, ◌∙◌, All}
use Rattle.std.specs.Prelude.{bytes_eq}
use Rattle.std.specs.List.{list_all}
use Rattle.std.proofs.lemmas.List.Elements.{All-nil, All-cons, All-head}
use Rattle.std.proofs.lemmas.Slice.Eq.{bytes_eq-Decides}
use Rattle.c_tree.specs.declared.program.Program.{Program}
use Rattle.c_tree.specs.declared.raw.program.RawProgram.{RawProgram}
use Rattle.c_language.specs.Words.{Bytes}
use Rattle.c_language.specs.TokenForms.{Tokens, of_kind}
use Rattle.c_language.specs.Tokens.{marks, is_mark, is_header, IsGap, IsInclude, IsLineTail, IsToken, IsTokens}
use Rattle.c_language.specs.Syntax.{IsSyntax}
use Rattle.c_language.specs.Programs.{IsFormed, IsTree, IsWellFormed}
use Rattle.c_language.specs.declared.token.Before.TheVariants.{Blank, Comment, Token}
use Rattle.c_language.specs.declared.token.TokenKind.{TokenKind}
use Rattle.c_language.specs.declared.token.TokenKind.TheVariants.{Name, Number, Character, Str, Mark, Include, Directive}
use Rattle.c_language.proofs.FormedTokens.{formed_tokens}
use Rattle.c_language.proofs.Lists.{any_passes}
use Rattle.c_text_layout.proofs.TokenPrint.{is_sure, print_mark, print_name, print_number, print_character, print_string}
use Rattle.text_syntax.proofs.Spelled.{spelled, AreSpelled}
use Rattle.text_syntax.proofs.Items.{text_is_syntax}
use Rattle.text_syntax.proofs.ItemTokens.{syntax_has_tokens}
use Rattle.c_print_laws.specs.SyntaxLayout.{HasSyntax}
use Rattle.c_text_layout.proofs.SpelledForms.{spelled_form}
use Rattle.c_print_laws.proofs.SyntaxLayout.{none_left_out}

-- ---- tokens alone in a text

-- no longer mark and no comment begins with the mark, at the end of a text
abbrev stands_alone : Bytes → Bool
stands_alone w = is_sure (length w) (w ++ [])

marks_alone : list_all stands_alone marks ≡ true
marks_alone = refl

mark_formed : (w : Bytes) (l : ℕ) → is_mark w ≡ true → IsFormed (of_kind Mark w l)
mark_formed w l h =
    let x = any_passes (bytes_eq w) stands_alone marks h marks_alone in
    let same : w ≡ x.0 = (bytes_eq-Decides w x.0).0 x.1 in
    All-head IsFormed (of_kind Mark w l) [] (formed_tokens (print_mark {before = Token} {line = l} {rest = []} w h (ap stands_alone same ∙ x.2) IsTokens.done))

include_formed : (w : Bytes) (l : ℕ) → is_header w ≡ true → IsFormed (of_kind Include w l)
include_formed w l h = record {
  before = Blank;
  own = codes "#" ++ ([] ++ (codes "include" ++ ([] ++ w)));
  rest = [];
  is = IsToken.include (IsInclude.include IsGap.none IsGap.none h) ([], [], IsGap.none, IsLineTail.ends tt, refl);
}

directive_formed : (w : Bytes) (l : ℕ) → bytes_eq w (codes "#") ≡ true → IsFormed (of_kind Directive w l)
directive_formed w l h = subst (λ (v : Bytes). IsFormed (of_kind Directive v l)) (sym ((bytes_eq-Decides w (codes "#")).0 h))
    (record { before = Comment; own = codes "#" ++ []; rest = []; is = IsToken.directive_behind {inside = []} refl tt })

token_formed : (kind : TokenKind) (w : Bytes) (l : ℕ) → spelled kind w ≡ true → IsFormed (of_kind kind w l)
token_formed Name w l h = All-head IsFormed (of_kind Name w l) [] (formed_tokens (print_name {before = Token} {line = l} {rest = []} w (spelled_form Name w h) tt IsTokens.done))
token_formed Number w l h = All-head IsFormed (of_kind Number w l) [] (formed_tokens (print_number {before = Token} {line = l} {rest = []} w (spelled_form Number w h) tt IsTokens.done))
token_formed Character w l h = All-head IsFormed (of_kind Character w l) [] (formed_tokens (print_character {before = Token} {line = l} {rest = []} w (spelled_form Character w h) IsTokens.done))
token_formed Str w l h = All-head IsFormed (of_kind Str w l) [] (formed_tokens (print_string {before = Token} {line = l} {rest = []} w (spelled_form Str w h) IsTokens.done))
token_formed Mark w l h = mark_formed w l h
token_formed Include w l h = include_formed w l h
token_formed Directive w l h = directive_formed w l h

-- tokens that are spelled as their kinds are, are tokens of some bytes
spelled_formed : (ts : Tokens) → AreSpelled ts → All IsFormed ts
spelled_formed [] h = All-nil IsFormed
spelled_formed (t ∷ ts) h = All-cons IsFormed t ts (token_formed t.kind t.text t.line h.0) (spelled_formed ts h.1)

-- ---- trees

-- a tree that is syntax is the tree of some tokens
pub syntax_is_tree : (raw : RawProgram) → IsSyntax raw → IsTree raw
syntax_is_tree raw h =
    let x = syntax_has_tokens raw h in
    record {
      tokens = x.tokens;
      is = record { formed = spelled_formed x.tokens x.spelled; grammar = x.is; whole = none_left_out raw x.is x.untold };
    }

-- ---- well-formed programs

-- the tree of a well-formed program is syntax
pub has_syntax : (p : Program) → IsWellFormed p → HasSyntax p
has_syntax p h = record { raw = h.raw; same = h.same; syntax = text_is_syntax h.raw h.tree; has = h.has; within = h.within; but_lines = h.but_lines }

-- a program that has syntax is well formed
pub syntax_well_formed : (p : Program) → HasSyntax p → IsWellFormed p
syntax_well_formed p h = record { raw = h.raw; same = h.same; tree = syntax_is_tree h.raw h.syntax; has = h.has; within = h.within; but_lines = h.but_lines }
