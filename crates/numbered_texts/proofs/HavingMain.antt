-- Each well-formed program has a main.
use Rattle.std.proofs.Common.{◌≡◌, ℕ, suc, List, [], ◌∷◌, map, Bool, true, false, cond, Option, Some, None, option_map, position, find, bytes_eq, refl, sym, ap, ◌∙◌}
use Rattle.c_tree.specs.declared.program.Function.{Function}
use Rattle.c_tree.specs.declared.program.Program.{Program}
use Rattle.c_tree.specs.declared.raw.program.RawHead.{RawHead}
use Rattle.c_tree.specs.declared.raw.program.RawProgram.{RawProgram}
use Rattle.c_tree.specs.Unlined.{unlined_function, SameButLines}
use Rattle.c_language.specs.Words.{Bytes}
use Rattle.c_language.specs.DeclaredTypes.{function_texts}
use Rattle.c_language.specs.Mains.{main_of}
use Rattle.c_language.specs.NameRules.{main_name, is_main}
use Rattle.c_language.specs.Programs.{HasProgram}
use Rattle.c_language.specs.Rules.{no_main}
use Rattle.c_language.specs.Scopes.{outset}
use Rattle.c_language.proofs.Lists.{position-cons}
use Rattle.c_language.proofs.ProgramParts.{made_of}
use Rattle.numbered_texts.specs.Laws.{ProgramsHaveMain}
use Rattle.numbered_texts.proofs.Items.{names_are}

abbrev function_names : List Function → List Bytes
function_names fs = map (λ (f : Function). f.name) fs

-- main is found by the names alone
by_names : (fs : List Function) → position (λ (f : Function). is_main f.name) fs ≡ position is_main (function_names fs)
by_names [] = refl
by_names (f ∷ fs) =
    position-cons (λ (g : Function). is_main g.name) f fs ∙ ap (λ o. cond (is_main f.name) (Some 0) (option_map suc o)) (by_names fs) ∙ sym (position-cons is_main f.name (function_names fs))

none_before : (o : Option ℕ) → option_map suc o ≡ None → o ≡ None
none_before None e = refl
none_before (Some n) e = cc

abbrev head_names : List RawHead → List Bytes
head_names hs = map (λ (h : RawHead). h.name) hs

abbrev found_main : List RawHead → Option RawHead
found_main hs = find (λ (h : RawHead). bytes_eq h.name main_name) hs

-- where no name is main, no head has it
none_found : (hs : List RawHead) → position is_main (head_names hs) ≡ None → found_main hs ≡ None
none_found [] e = refl
none_found (h ∷ hs) e =
    by_test (is_main h.name) (found_main hs) (position is_main (head_names hs)) (sym (position-cons is_main h.name (head_names hs)) ∙ e) (λ rest. none_found hs rest)
  where
    by_test : (b : Bool) (later : Option RawHead) (o : Option ℕ) → cond b (Some 0) (option_map suc o) ≡ None → (o ≡ None → later ≡ None) → cond b (Some h) later ≡ None
    by_test true later o none rest = cc
    by_test false later o none rest = rest (none_before o none)

text_has_main : (raw : RawProgram) (p : Program) → HasProgram raw p → (f : ℕ) × (main_of p ≡ Some f)
text_has_main raw p has = by_case (main_of p) refl
  where
    by_case : (o : Option ℕ) → main_of p ≡ o → (f : ℕ) × (main_of p ≡ Some f)
    by_case (Some f) e = (f, e)
    by_case None e =
        let names = names_are raw raw.items outset p.functions (made_of raw p has.program).functions in
        absurd (has.rules 5 1 (no_main (none_found (function_texts raw.items) (ap (position is_main) (sym names) ∙ sym (by_names p.functions) ∙ e))))

names_unlined : (fs : List Function) → function_names (map unlined_function fs) ≡ function_names fs
names_unlined [] = refl
names_unlined (f ∷ fs) = ap (λ ns. f.name ∷ ns) (names_unlined fs)

pub main_same : (p q : Program) → SameButLines p q → main_of p ≡ main_of q
main_same p q same =
    by_names p.functions ∙ ap (position is_main) (sym (names_unlined p.functions) ∙ ap (λ (r : Program). function_names r.functions) same ∙ names_unlined q.functions) ∙ sym (by_names q.functions)

pub has_main : ProgramsHaveMain
has_main p ok =
    let there = text_has_main ok.raw ok.same ok.has in
    (there.0, main_same p ok.same ok.but_lines ∙ there.1)
