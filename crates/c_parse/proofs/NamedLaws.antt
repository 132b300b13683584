-- What is answered where reading stopped, by the construct that is named.
use Rattle.std.proofs.Common.{◌≡◌, ℕ, zero, suc, ◌-◌, ◌<◌, min, List, [], ◌∷◌, length, refl, sym, ap, ◌∙◌, subst, Option, Some, None, Ok, Err, arith, IfSome, slice_get}
use Rattle.c_tree.specs.declared.raw.program.RawItem.{RawItem}
use Rattle.c_tree.specs.declared.raw.program.RawProgram.{RawProgram}
use Rattle.c_language.specs.TokenForms.{Tokens}
use Rattle.c_language.specs.ItemGrammar.{IsProgram}
use Rattle.c_language.specs.LeftOut.{BeginsLeftOut}
use Rattle.c_parse_expr.specs.Outcome.{Outcome, Syntax}
use Rattle.c_parse_left_out.specs.Telling.{first_told}
use Rattle.c_parse_left_out.specs.Near.{left_out_near}
use Rattle.c_parse_left_out.specs.Places.{IsWithoutProductionAt, IsLeftOutAt}
use Rattle.c_parse_left_out.proofs.NearLaws.{near_begins}
use Rattle.c_parse.specs.declared.parse_fault.ParseFault.{ParseFault}
use Rattle.c_parse.specs.declared.parse_fault.ParseFault.TheVariants as fault
use Rattle.c_parse.specs.ItemReading.{program, items_from, none_left}
use Rattle.c_parse.specs.Parser.{IsLineOf, left_out, named, some_line, line_before, NamesAt, Answers}

-- ---- what is named

-- The construct at the place that is named is told.
named_answers : (ts : Tokens) (outcome : Outcome RawProgram) (at : ℕ) (f : ParseFault) → named ts outcome ≡ Some at → NamesAt ts at f → Answers ts outcome (Err f)
named_answers ts outcome at (fault.LeftOut text line) h is = (is.0, (at, h, is.1))
named_answers ts outcome at (fault.Syntax line) h is = absurd is
named_answers ts outcome at (fault.Nesting line) h is = absurd is
named_answers ts outcome at fault.NoMemory h is = tt

-- in tokens that were read
pub told_answers : (ts rest : Tokens) (all : RawProgram) (outcome : Outcome RawProgram) (at : ℕ) (f : ParseFault)
    → outcome ≡ Ok (all, rest) → first_told 0 [] ts ≡ Some at → NamesAt ts at f → Answers ts outcome (Err f)
told_answers ts rest all outcome at f e h is = named_answers ts outcome at f (ap (named ts) e ∙ h) is

-- in tokens in which reading stopped
pub stopped_answers : (ts : Tokens) (outcome : Outcome RawProgram) (left at : ℕ) (f : ParseFault)
    → outcome ≡ Err (Syntax left) → left_out ts (length ts - left) ≡ Some at → NamesAt ts at f → Answers ts outcome (Err f)
stopped_answers ts outcome left at f e h is = named_answers ts outcome at f (ap (named ts) e ∙ h) is

-- Where none is named, the line is told in which reading stopped.
pub unnamed_answers : (ts : Tokens) (outcome : Outcome RawProgram) (left line : ℕ)
    → outcome ≡ Err (Syntax left) → left_out ts (length ts - left) ≡ None → line ≡ line_before left ts → Answers ts outcome (Err (fault.Syntax line))
unnamed_answers ts outcome left line e h at = (left, e, ap (named ts) e ∙ h, at)

-- A construct without a production is left out where the tokens have no tree.
without_tree : (ts : Tokens) (at : ℕ) → ((all : RawProgram) → IsProgram ts all → ⊥) → IsWithoutProductionAt ts at → IsLeftOutAt ts at
without_tree ts at h x =
    record { front = x.front; token = x.token; behind = x.behind; split = x.split; place = x.place; begins = BeginsLeftOut.without_tree h x.is }

left_out_there : (ts : Tokens) (found : Option ℕ) → ((all : RawProgram) → IsProgram ts all → ⊥) → IfSome found (λ at. IsWithoutProductionAt ts at) → IfSome found (λ at. IsLeftOutAt ts at)
left_out_there ts None h x = tt
left_out_there ts (Some at) h x = without_tree ts at h x

pub near_left_out : (ts : Tokens) (stop : ℕ) (found : Option ℕ) → ((all : RawProgram) → IsProgram ts all → ⊥) → found ≡ left_out_near ts stop → IfSome found (λ at. IsLeftOutAt ts at)
near_left_out ts stop found h e = left_out_there ts found h (subst (λ (o : Option ℕ). IfSome o (λ at. IsWithoutProductionAt ts at)) (sym e) (near_begins ts stop))

-- ---- lines

get_line : (ts : Tokens) (at : ℕ) → at < length ts → IsLineOf ts (some_line (slice_get ts at))
get_line [] at p = absurd (omega (arith, p))
get_line (t ∷ ts) zero p = (t, (zero, omega arith, refl), refl)
get_line (t ∷ ts) (suc at) p = let x = get_line ts at (omega (arith, p)) in let q = x.1.1 in (x.0, (suc x.1.0, omega (arith, q), x.1.2), x.2)

-- The line in which reading stopped is that of a token.
pub line_is_of : (ts : Tokens) (left line : ℕ) → 0 < length ts → line ≡ line_before left ts → IsLineOf ts line
unfolding line_before
line_is_of ts left line p e = subst (IsLineOf ts) (sym e) (get_line ts (min (length ts - left) (length ts - 1)) (omega (arith, p)))

-- ---- no tokens

-- no tokens are those of a text without items
nothing_read : (limit : ℕ) → program limit [] ≡ Ok (record { items = [] }, [])
unfolding program items_from none_left
nothing_read limit = refl

nothing_told_of : first_told 0 [] [] ≡ None
unfolding first_told
nothing_told_of = refl

-- what is answered for no tokens
pub nothing_answers : (limit : ℕ) (ts : Tokens) (all : List RawItem) → all ≡ [] → length ts ≡ 0 → Answers ts (program limit ts) (Ok (record { items = all }))
nothing_answers limit [] all e h = ([], nothing_read limit ∙ ap (λ (x : List RawItem). Ok (record { items = x }, [])) (sym e), nothing_told_of)
nothing_answers limit (t ∷ ts) all e h = absurd (omega (arith, h))
