-- The program that a seed gives is accepted, and what is asked of it is there.
use Rattle.std.proofs.Common.{◌≡◌, ◌⊎◌, ◌<◌, ◌≤◌, ◌&&◌, ◌==◌, ◌^◌, ℕ, zero, suc, List, [], ◌∷◌, Bool, length, ap, ap₂, refl, sym, subst, ◌∙◌, true, inl, inr, arith}
use Rattle.std.specs.List.{list_any, range_with_len}
use Rattle.std.proofs.lemmas.Bool.{eq-eqb, or_left}
use Rattle.edge_io.specs.Contents.{Told}
use Rattle.c_tree.specs.declared.numbered.Start.{Start}
use Rattle.c_tree.specs.declared.program.Program.{Program}
use Rattle.c_tree.specs.Numbered.{Starts, program_starts}
use Rattle.c_language.specs.Programs.{IsWellFormed}
use Rattle.c_language.specs.Words.{Bytes}
use Rattle.c_reader.specs.Reading.{ReadsProgram}
use Rattle.big_programs.specs.Generated.{generated}
use Rattle.big_laws.proofs.Accepted.{generated_accepted}
use Rattle.big_laws.proofs.Short.{generated_short}
use Rattle.call_words.specs.Grammar.{IsInGrammar}
use Rattle.call_words.specs.Requests.{Asked, IsBounded, asked_of, file_in, input_of}
use Rattle.call_words.proofs.FormLaws.{words_bounded}
use Rattle.dep_model.specs.declared.graph.Graph.{Graph}
use Rattle.dep_model.proofs.StartDoings.{ids}
use Rattle.numbered_texts.proofs.NumbersButLines.{statements_numbered}
use Rattle.slice_engine.specs.Slice.{HasStart}
use Rattle.slice_engine.proofs.StartNumbers.{functions_agree}
use Rattle.slicer_top.specs.Files.{HoldsGiven, IsGiven, NamesText, text_made}
use Rattle.slicer_top.specs.SliceNumbers.{HasSomeStart, numbers_line, size_of}
use Rattle.slicer_top.specs.Slices.{HasLastOf, HasSmallGraph, StartsSome}
use Rattle.slicer_top.proofs.ReaderLaws.{one_program}

-- ---- a program with a statement has one that starts on a line

first_start : (ss : Starts) (n : ℕ) → ids ss ≡ range_with_len 0 n → 0 < n → (line : ℕ) × ((i : ℕ) × (list_any (λ (s : Start). (s.id == i) && (s.line == line)) ss ≡ true))
first_start [] zero same some = absurd (omega (arith, some))
first_start [] (suc n) same some = absurd (let e : ◌≡◌ {A = List ℕ} [] (0 ∷ range_with_len 1 n) = same in cc)
first_start (s ∷ ss) n same some =
    (s.line, (s.id, or_left ((s.id == s.id) && (s.line == s.line)) (list_any (λ (r : Start). (r.id == s.id) && (r.line == s.line)) ss) (ap₂ (λ a b. a && b) (eq-eqb s.id s.id refl) (eq-eqb s.line s.line refl))))

pub some_start : (p : Program) → IsWellFormed p → 0 < p.statements → HasSomeStart p
some_start p well some = first_start (program_starts p) p.statements (functions_agree p.functions ∙ statements_numbered p well) some

-- the last line on which one starts, where one does
pub last_starts : (p : Program) (line : ℕ) → HasSomeStart p → ((other : ℕ) → HasStart p other → other ≤ line) → (line ≡ 0) ⊎ HasStart p line → HasStart p line
last_starts p line (other, here) latest (inl none) =
    let le = latest other here in
    let same : other ≡ line = omega (arith, le, none) in
    subst (HasStart p) same here
last_starts p line some latest (inr here) = here

-- ---- the numbers that are counted

pub numbers_are : (p : Program) (g : Graph) (kept : List Bool) (text written : Bytes) (functions statements vertices size bytes : ℕ)
    → functions ≡ length p.functions → statements ≡ p.statements → vertices ≡ length g.vertices → size ≡ size_of kept → bytes ≡ length text → written ≡ numbers_line functions statements vertices size bytes
    → written ≡ numbers_line (length p.functions) p.statements (length g.vertices) (size_of kept) (length text)
numbers_are p g kept text written functions statements vertices size bytes f s v k b is =
    is ∙ ap (λ n. numbers_line n statements vertices size bytes) f ∙ ap (λ n. numbers_line (length p.functions) n vertices size bytes) s
    ∙ ap (λ n. numbers_line (length p.functions) p.statements n size bytes) v ∙ ap (λ n. numbers_line (length p.functions) p.statements (length g.vertices) n bytes) k
    ∙ ap (λ n. numbers_line (length p.functions) p.statements (length g.vertices) (size_of kept) n) b

-- ---- the text that a seed gives

generated_starts : (seed size workers : ℕ) → (seed ≤ 2147483647) × (0 < size) × (size ≤ 1000) → HasSmallGraph (generated seed size) → StartsSome (generated seed size) (Asked.big seed size workers) []
generated_starts seed size workers bounds small =
    let some = bounds.1 in
    let few = bounds.2 in
    let accepted = generated_accepted seed size some (omega (arith, few)) in
    record {
      program = accepted.0;
      built = record { reads = accepted.1; within = λ name above. small accepted.0 name accepted.1 above };
      few = omega arith;
      starts = λ i lt. absurd (omega (arith, lt));
      ends = tt;
    }

-- its program has a statement
pub generated_last : (told : Told) (asked : Asked) (text : Bytes) → IsBounded asked → IsGiven told (text_made asked) (file_in asked) text → HasLastOf text asked
generated_last told (Asked.slice file lines workers) text bounds given = λ p reads. tt
generated_last told (Asked.trace file lines input steps) text bounds given = λ p reads. tt
generated_last told (Asked.run file input steps) text bounds given = λ p reads. tt
generated_last told (Asked.graph file workers) text bounds given = λ p reads. tt
generated_last told (Asked.members file line workers) text bounds given = λ p reads. tt
generated_last told (Asked.big seed size workers) text bounds given = λ p reads.
    let some = bounds.1 in
    let few = bounds.2 in
    let accepted = generated_accepted seed size some (omega (arith, few)) in
    let same : accepted.0 ≡ p = one_program (generated seed size) accepted.0 p accepted.1 (subst (λ t. ReadsProgram t p) given reads) in
    subst (λ (q : Program). 0 < q.statements) same accepted.2
generated_last told (Asked.forward file line workers) text bounds given = λ p reads. tt
generated_last told (Asked.chop file from to workers) text bounds given = λ p reads. tt

-- and isn't long
pub made_short : (asked : Asked) → IsBounded asked → length (text_made asked) ≤ 1048576
made_short (Asked.slice file lines workers) bounds = omega arith
made_short (Asked.trace file lines input steps) bounds = omega arith
made_short (Asked.run file input steps) bounds = omega arith
made_short (Asked.graph file workers) bounds = omega arith
made_short (Asked.members file line workers) bounds = omega arith
made_short (Asked.big seed size workers) bounds = generated_short seed size bounds.2
made_short (Asked.forward file line workers) bounds = omega arith
made_short (Asked.chop file from to workers) bounds = omega arith

-- ---- words that ask for it

pub big_named : (words : List Bytes) (told : Told) (seed size workers : ℕ) → IsInGrammar words → asked_of words ≡ Asked.big seed size workers → NamesText words told (generated seed size) []
big_named words told seed size workers g is = record {
  in_grammar = g;
  holds = subst (λ a. HoldsGiven told (text_made a) (file_in a) (generated seed size)) (sym is) refl;
  holds_input = subst (λ a. HoldsGiven told [] (input_of a) []) (sym is) refl;
}

pub big_starts : (words : List Bytes) (seed size workers : ℕ) → IsInGrammar words → asked_of words ≡ Asked.big seed size workers → HasSmallGraph (generated seed size) → StartsSome (generated seed size) (asked_of words) []
big_starts words seed size workers g is small =
    let bounds : IsBounded (Asked.big seed size workers) = subst IsBounded is (words_bounded words g) in
    subst (λ a. StartsSome (generated seed size) a []) (sym is) (generated_starts seed size workers (bounds.0, bounds.1, bounds.2) small)
