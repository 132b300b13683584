-- What the parser answers is right.
use Rattle.std.proofs.Common.{◌≡◌, ℕ, ◌+◌, ◌≤◌, ◌<◌, [], ◌∷◌, ◌++◌, sym, ◌∙◌, arith, None, Result, Ok, Err, IfOk, inl, inr}
use Rattle.std.proofs.lemmas.Bool.{cases_lt}
use Rattle.c_tree.specs.declared.raw.program.RawProgram.{RawProgram}
use Rattle.c_language.specs.TokenForms.{Tokens}
use Rattle.c_language.specs.ItemGrammar.{IsProgram}
use Rattle.c_language.specs.StatementNesting.{program_nesting}
use Rattle.c_language.specs.LeftOut.{BeginsLeftOut, IsInGrammar}
use Rattle.c_language.specs.declared.token.Token.{Token}
use Rattle.c_parse.specs.declared.parse_fault.ParseFault.{ParseFault}
use Rattle.c_parse.specs.declared.parse_fault.ParseFault.TheVariants as fault
use Rattle.c_parse_expr.specs.Outcome.{Outcome, Syntax, Deep}
use Rattle.c_parse.specs.ItemReading.{program}
use Rattle.c_parse_left_out.specs.Telling.{first_told}
use Rattle.c_parse.specs.Parser.{IsRight, Gives, IsTooDeep, Answers}
use Rattle.c_parse_expr.proofs.Tests.{ok_parts}
use Rattle.c_parse.proofs.ItemLaws.{program_exact}
use Rattle.c_parse.proofs.ItemSound.{program_sound}
use Rattle.c_parse.proofs.ItemDeep.{program_deep}
use Rattle.c_parse_left_out.proofs.TellingLaws.{nothing_told}

-- a tree that is read nests at most as deep as the limit
fits_limit : (limit : ℕ) (ts : Tokens) (all : RawProgram) (rest : Tokens) → program limit ts ≡ Ok (all, rest) → IsProgram ts all → program_nesting all ≤ limit
fits_limit limit ts all rest h is = elim (cases_lt limit (program_nesting all)) [
  | inl above ↦ absurd (let e = (program_exact is limit).deep above in let f : ◌≡◌ {A = Outcome RawProgram} (Ok (all, rest)) (Err Deep) = sym h ∙ e in cc)
  | inr p ↦ p
]

-- No tokens have two trees.
pub one_tree : (ts : Tokens) (a b : RawProgram) → IsProgram ts a → IsProgram ts b → a ≡ b
one_tree ts a b h k =
    let one : program (program_nesting a + program_nesting b) ts ≡ Ok (a, []) = (program_exact h (program_nesting a + program_nesting b)).fits (omega arith) in
    let two : program (program_nesting a + program_nesting b) ts ≡ Ok (b, []) = (program_exact k (program_nesting a + program_nesting b)).fits (omega arith) in
    (ok_parts (sym one ∙ two)).0

nothing_begins : (ts front behind : Tokens) (t : Token) (all : RawProgram) → IsProgram ts all → first_told 0 [] ts ≡ None → ts ≡ front ++ t ∷ behind → BeginsLeftOut ts front t behind → ⊥
nothing_begins ts front behind t all is none split (BeginsLeftOut.told h) = nothing_told ts front t behind none split h
nothing_begins ts front behind t all is none split (BeginsLeftOut.without_tree lacks h) = lacks all is

-- A text that was read, and in which nothing is told, is in the grammar.
in_grammar : (ts : Tokens) (all : RawProgram) → IsProgram ts all → first_told 0 [] ts ≡ None → IsInGrammar ts
in_grammar ts all is none = record {
  tree = all;
  is = is;
  whole = λ text line l. nothing_begins ts l.front l.behind l.token all is none l.split l.begins;
}

above_limit : (limit : ℕ) (ts : Tokens) → program limit ts ≡ Err Deep → (all : RawProgram) → IsProgram ts all → limit < program_nesting all
above_limit limit ts h all is = elim (cases_lt limit (program_nesting all)) [
  | inl p ↦ p
  | inr p ↦ let e = (program_exact is limit).fits p in absurd (let f : ◌≡◌ {A = Outcome RawProgram} (Err Deep) (Ok (all, [])) = sym h ∙ e in cc)
]

-- Where reading stops for another reason than depth, the tokens have no tree of any depth.
pub no_tree : (limit left : ℕ) (ts : Tokens) → program limit ts ≡ Err (Syntax left) → (all : RawProgram) → IsProgram ts all → ⊥
no_tree limit left ts h all is = elim (cases_lt limit (program_nesting all)) [
  | inl p ↦ let e = (program_exact is limit).deep p in absurd (let f : ◌≡◌ {A = Outcome RawProgram} (Err (Syntax left)) (Err Deep) = sym h ∙ e in cc)
  | inr p ↦ let e = (program_exact is limit).fits p in absurd (let f : ◌≡◌ {A = Outcome RawProgram} (Err (Syntax left)) (Ok (all, [])) = sym h ∙ e in cc)
]

pub right : (limit : ℕ) (ts : Tokens) (r : Result RawProgram ParseFault) → Answers ts (program limit ts) r → IsRight ts limit r
right limit ts (Ok all) h =
    let is = program_sound limit ts all h.0 h.1 in
    (is, in_grammar ts all is h.2, fits_limit limit ts all h.0 h.1 is)
right limit ts (Err (fault.LeftOut text line)) h = h.0
right limit ts (Err (fault.Syntax line)) h = no_tree limit h.0 ts h.1
right limit ts (Err (fault.Nesting line)) h = (program_deep limit ts h, above_limit limit ts h)
right limit ts (Err fault.NoMemory) h = tt

pub accepted : (limit : ℕ) (ts : Tokens) (r : Result RawProgram ParseFault) → Answers ts (program limit ts) r
    → (all : RawProgram) → IsProgram ts all → IsInGrammar ts → program_nesting all ≤ limit → Gives all r
accepted limit ts (Ok found) h all is g p = (ok_parts (sym h.1 ∙ (program_exact is limit).fits p)).0
accepted limit ts (Err (fault.LeftOut text line)) h all is g p = g.whole text line h.0
accepted limit ts (Err (fault.Syntax line)) h all is g p = no_tree limit h.0 ts h.1 all is
accepted limit ts (Err (fault.Nesting line)) h all is g p = absurd (let f : ◌≡◌ {A = Outcome RawProgram} (Err Deep) (Ok (all, [])) = sym h ∙ (program_exact is limit).fits p in cc)
accepted limit ts (Err fault.NoMemory) h all is g p = tt

pub deep : (limit : ℕ) (ts : Tokens) (r : Result RawProgram ParseFault) → Answers ts (program limit ts) r
    → (all : RawProgram) → IsProgram ts all → IsInGrammar ts → limit < program_nesting all → IsTooDeep r
deep limit ts (Ok found) h all is g p = absurd (let f : ◌≡◌ {A = Outcome RawProgram} (Ok (found, h.0)) (Err Deep) = sym h.1 ∙ (program_exact is limit).deep p in cc)
deep limit ts (Err (fault.LeftOut text line)) h all is g p = g.whole text line h.0
deep limit ts (Err (fault.Syntax line)) h all is g p = no_tree limit h.0 ts h.1 all is
deep limit ts (Err (fault.Nesting line)) h all is g p = tt
deep limit ts (Err fault.NoMemory) h all is g p = tt

pub only : (limit : ℕ) (ts : Tokens) (r : Result RawProgram ParseFault) → Answers ts (program limit ts) r → IfOk r (λ found. (all : RawProgram) → IsProgram ts all → found ≡ all)
only limit ts (Ok found) h = λ all is. one_tree ts found all (program_sound limit ts found h.0 h.1) is
only limit ts (Err x) h = tt
