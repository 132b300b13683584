-- A well-formed program is numbered in text order.
use Rattle.std.proofs.Common.{◌≡◌, ℕ, zero, suc, ◌+◌, List, [], ◌∷◌, ◌++◌, length, map, refl, sym, ap, ap₂, ◌∙◌, arith}
use Rattle.std.specs.Prelude.{Bool, ◌&&◌, not, is_some}
use Rattle.std.specs.List.{list_all, range_with_len}
use Rattle.std.proofs.lemmas.List.{length-map}
use Rattle.c_tree.specs.declared.program.Function.{Function}
use Rattle.c_tree.specs.declared.program.Program.{Program}
use Rattle.c_tree.specs.declared.statement.Statement.{Statement}
use Rattle.c_tree.specs.declared.statement.Statement.TheOpen.{Statement-F}
use Rattle.c_tree.specs.Unlined.{unlined, unlined_function, unlined_var, SameButLines}
use Rattle.c_language.specs.NameRules.{is_main}
use Rattle.dep_model.specs.Doings.{Doing, doing_step, doing_arm, doings, body_doings, functions_doings, program_doings, doing_number}
use Rattle.dep_model.specs.NumbersFrom.{from}
use Rattle.dep_model.specs.DoingNames.{doing_below}
use Rattle.c_tree.proofs.Unlining.{zeroed, fold_unlined}
use Rattle.text_syntax.proofs.Items.{text_is_syntax}
use Rattle.numbered_texts.specs.FittingCalls.{fits, gives, parameter_counts, results_given}
use Rattle.numbered_texts.specs.Laws.{StatementsAreNumbered, NamedVariablesExist, CallsFit, ResultsAreGiven}
use Rattle.numbered_texts.proofs.Texts.{text_numbers, text_names, text_calls, text_results}
use Rattle.numbered_texts.proofs.GivenResults.{all_taken}

doing_free : (x : Statement-F (List Doing) (List Doing)) → doing_step (zeroed x) ≡ doing_step x
doing_free (Statement-F.Declare id l x i) = refl
doing_free (Statement-F.Assign id l a op b) = refl
doing_free (Statement-F.Bump id l a up before) = refl
doing_free (Statement-F.Invoke id l to f args) = refl
doing_free (Statement-F.Fetch id l to) = refl
doing_free (Statement-F.Write id l a) = refl
doing_free (Statement-F.Print id l format args) = refl
doing_free (Statement-F.Heap id l to cast n) = refl
doing_free (Statement-F.Release id l a) = refl
doing_free (Statement-F.If id l e a b) = refl
doing_free (Statement-F.While id l e b) = refl
doing_free (Statement-F.Do id l e b) = refl
doing_free (Statement-F.For id l i e step b) = refl
doing_free (Statement-F.Switch id l e arms) = refl
doing_free (Statement-F.Block l b) = refl
doing_free (Statement-F.Return id l e) = refl

doings_unlined : (x : Statement) → doings (unlined x) ≡ doings x
doings_unlined = fold_unlined doing_step doing_arm doing_free

pub body_unlined : (xs : List Statement) → body_doings (map unlined xs) ≡ body_doings xs
body_unlined [] = refl
body_unlined (x ∷ xs) = ap₂ (λ (a b : List Doing). a ++ b) (doings_unlined x) (body_unlined xs)

functions_unlined : (fs : List Function) → functions_doings (map unlined_function fs) ≡ functions_doings fs
functions_unlined [] = refl
functions_unlined (f ∷ fs) = ap₂ (λ (a b : List Doing). a ++ b) (body_unlined f.body) (functions_unlined fs)

-- the statements are the same in programs that are the same but for lines
pub all_same : (p q : Program) → SameButLines p q → program_doings p ≡ program_doings q
all_same p q same =
    sym (functions_unlined p.functions) ∙ ap (λ (r : Program). functions_doings r.functions) same ∙ functions_unlined q.functions

pub count_same : (p q : Program) → SameButLines p q → length p.vars ≡ length q.vars
count_same p q same =
    sym (length-map p.vars unlined_var) ∙ ap (λ (r : Program). length r.vars) same ∙ length-map q.vars unlined_var

from_range : (i n : ℕ) → from i n ≡ range_with_len i n
from_range i zero = refl
from_range i (suc n) = let e : suc i ≡ i + 1 = omega arith in ap (λ ks. i ∷ ks) (from_range (suc i) n ∙ ap (λ k. range_with_len k n) e)

pub statements_numbered : StatementsAreNumbered
statements_numbered p ok =
    ap (map doing_number) (all_same p ok.same ok.but_lines) ∙ text_numbers ok.raw ok.same ok.has ∙ from_range 0 ok.same.statements ∙ ap (λ (r : Program). range_with_len 0 r.statements) (sym ok.but_lines)

pub named_exist : NamedVariablesExist
named_exist p ok =
    ap₂ (λ (k : ℕ) (ds : List Doing). list_all (doing_below k) ds) (count_same p ok.same ok.but_lines) (all_same p ok.same ok.but_lines) ∙ text_names ok.raw ok.same ok.has

parameters_unlined : (fs : List Function) → map (λ (f : Function). length f.params) (map unlined_function fs) ≡ map (λ (f : Function). length f.params) fs
parameters_unlined [] = refl
parameters_unlined (f ∷ fs) = ap (λ ns. length f.params ∷ ns) (parameters_unlined fs)

parameters_same : (p q : Program) → SameButLines p q → parameter_counts p ≡ parameter_counts q
parameters_same p q same =
    sym (parameters_unlined p.functions) ∙ ap (λ (r : Program). parameter_counts r) same ∙ parameters_unlined q.functions

pub calls_fit_well : CallsFit
calls_fit_well p ok =
    ap₂ (λ (ns : List ℕ) (ds : List Doing). list_all (fits ns) ds) (parameters_same p ok.same ok.but_lines) (all_same p ok.same ok.but_lines) ∙ text_calls ok.raw ok.same ok.has (text_is_syntax ok.raw ok.tree)

results_unlined : (fs : List Function) → map (λ (f : Function). is_some f.result && not (is_main f.name)) (map unlined_function fs) ≡ map (λ (f : Function). is_some f.result && not (is_main f.name)) fs
results_unlined [] = refl
results_unlined (f ∷ fs) = ap (λ bs. (is_some f.result && not (is_main f.name)) ∷ bs) (results_unlined fs)

results_same : (p q : Program) → SameButLines p q → results_given p ≡ results_given q
results_same p q same = sym (results_unlined p.functions) ∙ ap (λ (r : Program). results_given r) same ∙ results_unlined q.functions

pub results_stored : ResultsAreGiven
results_stored p ok =
    all_taken p (program_doings p) (ap₂ (λ (rs : List Bool) (ds : List Doing). list_all (gives rs) ds) (results_same p ok.same ok.but_lines) (all_same p ok.same ok.but_lines) ∙ text_results ok.raw ok.same ok.has)
