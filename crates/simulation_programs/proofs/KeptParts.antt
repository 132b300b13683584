-- A set of vertices keeps statements, calls and results as it keeps their vertices.
use Rattle.std.proofs.Common.{◌≡◌, ℕ, ◌+◌, List, Bool, true, false, refl, sym, ap, subst, eq-eqb, arith}
use Rattle.std.specs.List.{list_any}
use Rattle.bit_rows.specs.Sets.{has}
use Rattle.c_tree.specs.declared.expr.Expr.{Expr}
use Rattle.c_tree.specs.declared.program.Program.{Program}
use Rattle.c_tree.specs.declared.statement.Target.{Target}
use Rattle.c_language.specs.Code.{Act}
use Rattle.c_language.proofs.Tests.{false_true}
use Rattle.dep_model.specs.declared.vertex.Slot.TheVariants as slot
use Rattle.dep_model.specs.declared.vertex.Vertex.{Vertex}
use Rattle.dep_model.specs.declared.vertex.VertexKind.{VertexKind}
use Rattle.dep_model.specs.declared.vertex.VertexKind.TheVariants as kind
use Rattle.dep_model.specs.Doings.{Does, Calls, program_doings, doings_of}
use Rattle.dep_model.specs.FunctionVertices.{numbers}
use Rattle.dep_model.specs.SystemGraph.{Analysis, vertices_of, IsVertex}
use Rattle.dep_model.specs.VertexOrder.{in_function}
use Rattle.dep_model.proofs.Membership.{IsIn}
use Rattle.projection.specs.KeptVertices.{kept_words, is_result}
use Rattle.shaped_graphs.proofs.KindLaws.{AreApart}
use Rattle.hanging_sets.proofs.HeldVertices.{IsKept, same_number, held_there, statement_kept, call_kept}
use Rattle.hanging_sets.proofs.KeptDoings.{owned, result_owned}
use Rattle.simulation.specs.Settings.{Statement, Calling, ResultOut}
use Rattle.simulation_locations.specs.KeptVertices.{is_statement, is_call, keeps_vertex}
use Rattle.simulation_locations.specs.Wanted.{gives_result}
use Rattle.simulation_locations.proofs.CallVertices.{number_there, kind_there}
use Rattle.simulation_locations.proofs.KeptNumbers.{passing, passes_any}

pub both_ways : (b c : Bool) → (b ≡ true → c ≡ true) → (c ≡ true → b ≡ true) → b ≡ c
both_ways true true f g = refl
both_ways true false f g = sym (f refl)
both_ways false true f g = g refl
both_ways false false f g = refl

statement_kind : (i : ℕ) (x : VertexKind) → is_statement i x ≡ true → x ≡ kind.Statement i
statement_kind i (kind.Statement j) h = ap kind.Statement (same_number j i h)
statement_kind i kind.Entry h = false_true h
statement_kind i (kind.FormalIn s) h = false_true h
statement_kind i (kind.FormalOut s) h = false_true h
statement_kind i (kind.Call j) h = false_true h
statement_kind i (kind.ActualIn j s) h = false_true h
statement_kind i (kind.ActualOut j s) h = false_true h

call_kind : (i : ℕ) (x : VertexKind) → is_call i x ≡ true → x ≡ kind.Call i
call_kind i (kind.Call j) h = ap kind.Call (same_number j i h)
call_kind i kind.Entry h = false_true h
call_kind i (kind.FormalIn s) h = false_true h
call_kind i (kind.FormalOut s) h = false_true h
call_kind i (kind.Statement j) h = false_true h
call_kind i (kind.ActualIn j s) h = false_true h
call_kind i (kind.ActualOut j s) h = false_true h

result_kind : (i : ℕ) (x : VertexKind) → gives_result i x ≡ true → x ≡ kind.ActualOut i slot.Result
result_kind i (kind.ActualOut j slot.Result) h = ap (λ (n : ℕ). kind.ActualOut n slot.Result) (same_number j i h)
result_kind i (kind.ActualOut j (slot.Argument n)) h = false_true h
result_kind i (kind.ActualOut j (slot.At n)) h = false_true h
result_kind i kind.Entry h = false_true h
result_kind i (kind.FormalIn s) h = false_true h
result_kind i (kind.FormalOut s) h = false_true h
result_kind i (kind.Statement j) h = false_true h
result_kind i (kind.Call j) h = false_true h
result_kind i (kind.ActualIn j s) h = false_true h

module _ (p : Program) (a : Analysis) (set : List Bool) (apart : AreApart (program_doings p)) where
  abbrev vs : List Vertex
  vs = vertices_of p a

  -- a kept vertex is one of those of its kind that are kept, and the other way round
  pub any_there : (test : VertexKind → Bool) (f : ℕ) (x : VertexKind) → test x ≡ true → IsKept set vs f x → list_any (λ (n : ℕ). has set n) (numbers test f vs) ≡ true
  any_there test f x t w = passes_any (λ (n : ℕ). has set n) (numbers test f vs) w.number (number_there p a test f w.number x w.at t) w.member

  pub one_there : (test : VertexKind → Bool) (f : ℕ) (x : VertexKind) → ((y : VertexKind) → test y ≡ true → y ≡ x) → list_any (λ (n : ℕ). has set n) (numbers test f vs) ≡ true → IsKept set vs f x
  one_there test f x only h =
      let w = passing (λ (n : ℕ). has set n) (numbers test f vs) h in
      let is = kind_there p a test f w.number w.member in
      record { number = w.number; at = subst (λ (y : VertexKind). IsVertex vs f y w.number) (only is.kind is.passing) is.is; member = w.passes }

  result_there : (f i : ℕ) → IsKept set vs f (kind.ActualOut i slot.Result) → (kept_words set vs).result i ≡ true
  result_there f i w =
      let e : w.number ≡ 0 + w.number = omega arith in
      held_there set (λ (v : Vertex). is_result i v.kind) 0 w.number vs (in_function f (kind.ActualOut i slot.Result)) (subst (λ (n : ℕ). has set n ≡ true) e w.member) w.at (eq-eqb i i refl)

  pub act_as_vertex : (f i : ℕ) (act : Act) → IsIn (doings_of p f) (Does i act) → (kept_words set vs).statement i ≡ keeps_vertex p a set (Statement f i)
  act_as_vertex f i act m =
      both_ways ((kept_words set vs).statement i) (keeps_vertex p a set (Statement f i))
      (λ h. any_there (is_statement i) f (kind.Statement i) (eq-eqb i i refl) (owned p a set apart f (Does i act) m h))
      (λ h. statement_kept set vs f i (one_there (is_statement i) f (kind.Statement i) (statement_kind i) h))

  pub call_as_vertex : (f i g : ℕ) (to : Target) (args : List Expr) → IsIn (doings_of p f) (Calls i to g args) → (kept_words set vs).statement i ≡ keeps_vertex p a set (Calling f i g)
  call_as_vertex f i g to args m =
      both_ways ((kept_words set vs).statement i) (keeps_vertex p a set (Calling f i g))
      (λ h. any_there (is_call i) f (kind.Call i) (eq-eqb i i refl) (owned p a set apart f (Calls i to g args) m h))
      (λ h. call_kept set vs f i (one_there (is_call i) f (kind.Call i) (call_kind i) h))

  pub result_as_vertex : (f i g : ℕ) (to : Target) (args : List Expr) → IsIn (doings_of p f) (Calls i to g args) → (kept_words set vs).result i ≡ keeps_vertex p a set (ResultOut f i g)
  result_as_vertex f i g to args m =
      both_ways ((kept_words set vs).result i) (keeps_vertex p a set (ResultOut f i g))
      (λ h. any_there (gives_result i) f (kind.ActualOut i slot.Result) (eq-eqb i i refl) (result_owned p a set apart f i g to args m h))
      (λ h. result_there f i (one_there (gives_result i) f (kind.ActualOut i slot.Result) (result_kind i) h))
