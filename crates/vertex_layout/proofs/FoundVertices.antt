-- The statement of a vertex is found by its number among all statements of the program.
use Rattle.std.proofs.Common.{◌≡◌, ◌⊎◌, ℕ, zero, suc, ◌+◌, List, [], ◌∷◌, ◌++◌, map, cond, slice_get, option_map, Option, Some, None, false, inl, inr, refl, sym, ap, ◌∙◌, subst, arith, eqb-true, eq-eqb}
use Rattle.std.specs.List.{find, range_with_len}
use Rattle.std.specs.Option.{option_map_or}
use Rattle.std.proofs.lemmas.Bool.{cases_Bool, false≢true}
use Rattle.std.proofs.lemmas.Option.{slice_get-map, get_or_from_slice_get}
use Rattle.c_language.proofs.Lists.{head_is, tail_is, no_list}
use Rattle.c_language.proofs.Options.{some_same, none_there}
use Rattle.c_tree.specs.declared.program.Function.{Function}
use Rattle.c_tree.specs.declared.program.Program.{Program}
use Rattle.dep_model.specs.declared.vertex.Slot.{Slot}
use Rattle.dep_model.specs.declared.vertex.Vertex.{Vertex}
use Rattle.dep_model.specs.declared.vertex.VertexKind.{VertexKind}
use Rattle.dep_model.specs.declared.vertex.VertexKind.TheVariants.{FormalIn, FormalOut, ActualIn, ActualOut}
use Rattle.dep_model.specs.Doings.{Doing, Does, Calls, doing_number, doings_of, body_doings, functions_doings, program_doings}
use Rattle.dep_model.specs.MayPoint.{parameters}
use Rattle.dep_model.specs.ModRef.{FunctionEffects}
use Rattle.dep_model.specs.VertexOrder.{has_number, in_function, arguments_from, touched, slots_of, target_slots, result_slots, doing_vertices, all_vertices, formal_ins, formal_outs, function_kinds, vertices_from, program_vertices}
use Rattle.dep_model.proofs.Membership.{IsIn, in_of_get, in_first, in_second, in_either, of_map}
use Rattle.vertex_layout.specs.OwnStatements.{done}
use Rattle.vertex_layout.specs.RowWork.{statement_of, AreFound}

-- ---- a statement by its number

later : (i : ℕ) (e d : Doing) (ds : List Doing) → doing_number d ≡ i → has_number i e ≡ false → (e ≡ d) ⊎ IsIn ds d → IsIn ds d
later i e d ds is other (inl same) = absurd (false≢true (sym other ∙ eq-eqb (doing_number e) i (ap doing_number same ∙ is)))
later i e d ds is other (inr m) = m

-- the first with the number
record First (i : ℕ) (ds : List Doing) : Type 0 where
  pub doing : Doing
  pub found_is : find (has_number i) ds ≡ Some doing
  pub among : IsIn ds doing
  pub number_is : doing_number doing ≡ i

first_in : (i : ℕ) (ds : List Doing) (d : Doing) → IsIn ds d → doing_number d ≡ i → First i ds
first_in i [] d m is = absurd m
first_in i (e ∷ ds) d m is = elim (cases_Bool (has_number i e)) [
  | inl here ↦ record { doing = e; found_is = ap (λ b. cond b (Some e) (find (has_number i) ds)) here; among = inl refl; number_is = eqb-true (doing_number e) i here }
  | inr other ↦
      let more = first_in i ds d (later i e d ds is other m) is in
      record { doing = more.doing; found_is = ap (λ b. cond b (Some e) (find (has_number i) ds)) other ∙ more.found_is; among = inr more.among; number_is = more.number_is }
]

-- a member of a list that is numbered from n on stands at its number
stands_at : (ds : List Doing) (n count : ℕ) (d : Doing) → map doing_number ds ≡ range_with_len n count → IsIn ds d → (k : ℕ) × (doing_number d ≡ n + k) × (slice_get ds k ≡ Some d)
stands_at [] n count d same m = absurd m
stands_at (e ∷ ds) n zero d same m = no_list same
stands_at (e ∷ ds) n (suc count) d same (inl is) =
    let head : doing_number e ≡ n = head_is same in
    let own : doing_number e ≡ doing_number d = ap doing_number is in
    (zero, omega (arith, head, own), ap Some is)
stands_at (e ∷ ds) n (suc count) d same (inr m) =
    let more = stands_at ds (n + 1) count d (tail_is same) m in
    let own : doing_number d ≡ (n + 1) + more.0 = more.1 in
    (suc more.0, omega (arith, own), more.2)

-- ---- the statements of a function are among those of the program

among_functions : (gs : List Function) (f : ℕ) (g : Function) (d : Doing) → slice_get gs f ≡ Some g → IsIn (body_doings g.body) d → IsIn (functions_doings gs) d
among_functions [] f g d at m = none_there at
among_functions (h ∷ gs) zero g d at m = in_first (body_doings h.body) (functions_doings gs) d (subst (λ (x : Function). IsIn (body_doings x.body) d) (sym (some_same at)) m)
among_functions (h ∷ gs) (suc f) g d at m = in_second (body_doings h.body) (functions_doings gs) d (among_functions gs f g d at m)

among_all : (p : Program) (f : ℕ) (d : Doing) → IsIn (doings_of p f) d → IsIn (program_doings p) d
among_all p f d m = by_function (slice_get p.functions f) refl
  where
    by_function : (o : Option Function) → slice_get p.functions f ≡ o → IsIn (program_doings p) d
    by_function None at = absurd (subst (λ (o : Option Function). IsIn (option_map_or (λ (x : Function). body_doings x.body) o []) d) at m)
    by_function (Some g) at = among_functions p.functions f g d at (subst (λ (o : Option Function). IsIn (option_map_or (λ (x : Function). body_doings x.body) o []) d) at m)

-- ---- a vertex with a statement has one of its function

module _ (p : Program) (e : FunctionEffects) where
  of_statement : (d : Doing) (k : VertexKind) (i : ℕ) → IsIn (doing_vertices p e d) k → statement_of k ≡ Some i → doing_number d ≡ i
  of_statement (Does j a) k i (inl is) s = some_same (ap statement_of is ∙ s)
  of_statement (Does j a) k i (inr m) s = absurd m
  of_statement (Calls j to g args) k i (inl is) s = some_same (ap statement_of is ∙ s)
  of_statement (Calls j to g args) k i (inr m) s =
      let ins = arguments_from 0 args ++ slots_of p e (touched p e g) in
      let outs = slots_of p e (e.modified g) ++ target_slots p e to in
      elim (in_either (map (ActualIn j) ins) (map (ActualOut j) outs) k m) [
        | inl a ↦ let w = of_map (ActualIn j) ins k a in some_same (ap statement_of w.2 ∙ s)
        | inr b ↦ let w = of_map (ActualOut j) outs k b in some_same (ap statement_of w.2 ∙ s)
      ]

  of_statements : (ds : List Doing) (k : VertexKind) (i : ℕ) → IsIn (all_vertices p e ds) k → statement_of k ≡ Some i → (d : Doing) × IsIn ds d × (doing_number d ≡ i)
  of_statements [] k i m s = absurd m
  of_statements (d ∷ ds) k i m s = elim (in_either (doing_vertices p e d) (all_vertices p e ds) k m) [
    | inl a ↦ (d, inl refl, of_statement d k i a s)
    | inr b ↦ let w = of_statements ds k i b s in (w.0, inr w.1, w.2)
  ]

  no_statement : (way : Slot → VertexKind) → ((x : Slot) → statement_of (way x) ≡ None) → (xs : List Slot) (k : VertexKind) (i : ℕ) → IsIn (map way xs) k → statement_of k ≡ Some i → ⊥
  no_statement way none xs k i m s = let w = of_map way xs k m in none_there (sym (none w.0) ∙ ap statement_of w.2 ∙ s)

  of_kinds : (f : ℕ) (k : VertexKind) (i : ℕ) → IsIn (function_kinds p e f) k → statement_of k ≡ Some i → (d : Doing) × IsIn (doings_of p f) d × (doing_number d ≡ i)
  of_kinds f k i (inl is) s = none_there (ap statement_of is ∙ s)
  of_kinds f k i (inr m) s =
      let ins = arguments_from 0 (parameters p f) ++ slots_of p e (touched p e f) in
      let outs = slots_of p e (e.modified f) ++ result_slots p e f in
      let inner = all_vertices p e (doings_of p f) in
      elim (in_either (formal_ins p e f) (inner ++ formal_outs p e f) k m) [
        | inl a ↦ absurd (no_statement FormalIn (λ x. refl) ins k i a s)
        | inr b ↦ elim (in_either inner (formal_outs p e f) k b) [ inl c ↦ of_statements (doings_of p f) k i c s | inr d ↦ absurd (no_statement FormalOut (λ x. refl) outs k i d s) ]
      ]

  -- a vertex of the program is one of its function
  of_function : (gs : List Function) (f : ℕ) (x : Vertex) → IsIn (vertices_from p e f gs) x → IsIn (function_kinds p e x.function) x.kind
  of_function [] f x m = absurd m
  of_function (g ∷ gs) f x m = elim (in_either (map (in_function f) (function_kinds p e f)) (vertices_from p e (suc f) gs) x m) [
    | inl a ↦ let w = of_map (in_function f) (function_kinds p e f) x a in subst (λ (y : Vertex). IsIn (function_kinds p e y.function) y.kind) w.2 w.1
    | inr b ↦ of_function gs (suc f) x b
  ]

-- where the statements of a program are numbered from 0 on, those of its vertices are found
pub vertices_found : (p : Program) (e : FunctionEffects) (count : ℕ) → map doing_number (program_doings p) ≡ range_with_len 0 count → AreFound p (done (program_doings p)) (program_vertices p e)
vertices_found p e count same v x at = record {
  doing_is = λ i s.
      let d = of_kinds p e x.function x.kind i (of_function p e p.functions 0 x (in_of_get (program_vertices p e) v x at)) s in
      let o = first_in i (doings_of p x.function) d.0 d.1 d.2 in
      let w = stands_at (program_doings p) 0 count o.doing same (among_all p x.function o.doing o.among) in
      let number : doing_number o.doing ≡ i = o.number_is in
      let there : doing_number o.doing ≡ 0 + w.0 = w.1 in
      let place : w.0 ≡ i = omega (arith, number, there) in
      get_or_from_slice_get (done (program_doings p)) i (Some o.doing) None
      (slice_get-map Some (program_doings p) i ∙ ap (option_map Some) (subst (λ j. slice_get (program_doings p) j ≡ Some o.doing) place w.2))
      ∙ sym o.found_is;
}
