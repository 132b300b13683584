-- The variables that kept words name are kept: parameters by the closure under named parameters, and others by definition.
use Rattle.std.proofs.Common.{◌≡◌, ℕ, zero, suc, ◌+◌, ◌<◌, ◌≤◌, inl, inr, List, [], ◌∷◌, ◌++◌, length, slice_get, Bool, true, false, ◌&&◌, ◌||◌, not, Option, Some, None, refl, sym, ap, ◌∙◌, subst, arith}
use Rattle.std.specs.Prelude.{if◌then◌else◌}
use Rattle.std.specs.Option.{option_map_or}
use Rattle.std.proofs.lemmas.Bool.{and_parts, and_from, or_cases, or_left, or_right}
use Rattle.std.proofs.lemmas.Option.{slice_get_within}
use Rattle.bit_rows.specs.Sets.{has}
use Rattle.c_language.proofs.Tests.{false_true}
use Rattle.c_tree.specs.declared.expr.Expr.{Expr}
use Rattle.c_tree.specs.declared.program.Program.{Program}
use Rattle.c_tree.specs.declared.statement.Target.{Target}
use Rattle.c_language.specs.Code.{Act}
use Rattle.c_language.specs.Names.{names, any_names, target_names, act_names}
use Rattle.dep_model.specs.declared.edge.Edge.{Edge}
use Rattle.dep_model.specs.declared.vertex.Slot.TheVariants.{Argument, Result}
use Rattle.dep_model.specs.declared.vertex.Vertex.{Vertex}
use Rattle.dep_model.specs.declared.vertex.VertexKind.{VertexKind}
use Rattle.dep_model.specs.declared.vertex.VertexKind.TheVariants.{Entry, FormalIn, Statement, Call, ActualIn, ActualOut}
use Rattle.dep_model.specs.ClosedSets.{IsProjectable}
use Rattle.dep_model.specs.Doings.{Doing, Does, Calls, doing_number, doings_of, program_doings}
use Rattle.dep_model.specs.MayPoint.{parameters}
use Rattle.dep_model.specs.NamedParameters.{NamesParameter, kind_names, statement_names, argument_names, left_names}
use Rattle.dep_model.specs.SystemGraph.{Analysis, vertices_of, IsVertex, AreSystemEdges}
use Rattle.dep_model.specs.VertexOrder.{in_function, arguments_from, slots_of, touched, function_kinds}
use Rattle.dep_model.proofs.Membership.{IsIn, contains_of_in, in_first, in_map}
use Rattle.projection.specs.Kept.{KeptWords, chosen}
use Rattle.projection.specs.KeptVertices.{is_taken, is_taken_still, kept_words, keeps_function, keeps_parameter, keeps_variable}
use Rattle.projection.specs.Names.{call_names, stays}
use Rattle.shaped_graphs.proofs.KindLaws.{AreApart, entry_there}
use Rattle.shaped_graphs.proofs.ShapeLaws.{CallsFit}
use Rattle.shaped_graphs.proofs.VertexLaws.{vertex_of}
use Rattle.hanging_sets.specs.OwnParts.{HasOwnParts}
use Rattle.hanging_sets.proofs.NamedDoings.{kept_naming, kept_named, kept_number, kept_names, functions_same, named_of_in}
use Rattle.hanging_sets.specs.Laws.{IsNestedSet}
use Rattle.hanging_sets.proofs.HeldVertices.{IsKept, entry_kept, parameter_kept}
use Rattle.hanging_sets.proofs.KeptCalls.{same_tests, argument_there}
use Rattle.hanging_sets.proofs.KeptDoings.{owned, argument_owned, result_owned}
use Rattle.hanging_sets.proofs.Owners.{doing_found, in_program}
use Rattle.hanging_sets.proofs.Taken.{IsTakenBy, taken_by, taken_there, IsTakenStill, still_there, there_still, parameter_is, is_parameter_of}

module _ (p : Program) (a : Analysis) (set : List Bool) (apart : AreApart (program_doings p)) (fit : CallsFit p) (own : HasOwnParts p) (edges : List Edge) (able : IsProjectable p (vertices_of p a) edges set) (nests : IsNestedSet p (vertices_of p a) set) where
  abbrev vs : List Vertex
  vs = vertices_of p a

  abbrev words : KeptWords
  words = kept_words set vs

  -- the entry of a function of which a vertex is kept is kept
  pub entries_kept : (f : ℕ) (k : VertexKind) → f < length p.functions → IsKept set vs f k → keeps_function set vs f ≡ true
  entries_kept f k low w =
      let e = vertex_of p a f Entry low (entry_there p a.effects f) in
      entry_kept set vs f (record { number = e.0; at = e.1; member = nests.entries f w.number e.0 k w.at w.member e.1 })

  pub owners_kept : (f : ℕ) (d : Doing) → IsIn (doings_of p f) d → words.statement (doing_number d) ≡ true → keeps_function set vs f ≡ true
  owners_kept f d m h = let w = owned p a set apart f d m h in entries_kept f _ (fit.inside f d m) w

  -- ---- the vertex that names a variable

  -- a vertex of the function is in the set and names the variable
  record IsNaming (f x : ℕ) : Type 0 where
    kind : VertexKind
    kept : IsKept set vs f kind
    names_it : kind_names p f kind x ≡ true

  naming : (f : ℕ) (d : Doing) (x : ℕ) → IsIn (doings_of p f) d → kept_names words d x ≡ true → IsNaming f x
  naming f (Does i b) x m h = record {
    kind = Statement i;
    kept = owned p a set apart f (Does i b) m (and_parts (words.statement i) (act_names b x) h).0;
    names_it = ap (λ (o : Option Doing). statement_names o x) (doing_found p apart f (Does i b) m) ∙ (and_parts (words.statement i) (act_names b x) h).1;
  }
  naming f (Calls i to g args) x m h = elim (or_cases (words.result i && target_names to x) (any_names (chosen (words.argument i) 0 args) x) (and_parts (words.statement i) (call_names words i to args x) h).1) [
    | inl b ↦
        let q = and_parts (words.result i) (target_names to x) b in
        record {
          kind = ActualOut i Result;
          kept = result_owned p a set apart f i g to args m q.0;
          names_it = ap (λ (o : Option Doing). left_names o Result x) (doing_found p apart f (Calls i to g args) m) ∙ q.1;
        }
    | inr b ↦
        let w = kept_naming (words.argument i) 0 args x b in
        let z : 0 + w.place ≡ w.place = omega arith in
        record {
          kind = ActualIn i (Argument w.place);
          kept = argument_owned p a set apart f i g w.place to args m (ap (words.argument i) (sym z) ∙ w.kept);
          names_it = ap (λ (o : Option Doing). argument_names o (Argument w.place) x) (doing_found p apart f (Calls i to g args) m)
              ∙ ap (λ (o : Option Expr). option_map_or (λ (e : Expr). names e x) o false) w.at ∙ w.named;
        }
  ]

  -- a parameter that a kept vertex of its function names is kept
  parameter_named : (f n x : ℕ) (low : f < length p.functions) → slice_get (parameters p f) n ≡ Some x → IsNaming f x → keeps_parameter set vs f n ≡ true
  parameter_named f n x low at w =
      let within = slice_get_within (parameters p f) n x at in
      let slot = argument_there 0 (parameters p f) n (omega arith) (omega (arith, within)) in
      let here : IsIn (function_kinds p a.effects f) (FormalIn (Argument n)) = inr (in_first _ _ (FormalIn (Argument n)) (in_map FormalIn (arguments_from 0 (parameters p f) ++ slots_of p a.effects (touched p a.effects f)) (Argument n) (in_first (arguments_from 0 (parameters p f)) (slots_of p a.effects (touched p a.effects f)) (Argument n) slot))) in
      let u = vertex_of p a f (FormalIn (Argument n)) low here in
      let by : NamesParameter p vs w.kept.number u.0 = record { vertex = in_function f w.kind; number = n; variable = x; at = w.kept.at; parameter = at; named = w.names_it; formal = u.1 } in
      parameter_kept set vs f n (record { number = u.0; at = u.1; member = able.closed.closed.parameters w.kept.number u.0 by w.kept.member })

  zero_plus : (f : ℕ) → 0 + f ≡ f
  zero_plus f = omega arith

  -- the variable of a parameter that is kept, of a function that is kept
  parameter_stays : (f n x : ℕ) → slice_get (parameters p f) n ≡ Some x → keeps_function set vs f ≡ true → keeps_parameter set vs f n ≡ true → keeps_variable set vs p x ≡ true
  parameter_stays f n x at g q =
      or_left (is_taken_still (keeps_function set vs) (keeps_parameter set vs) 0 p.functions x) _
      (still_there (keeps_function set vs) (keeps_parameter set vs) 0 p.functions f n x (parameter_is p f n x at) (ap (keeps_function set vs) (zero_plus f) ∙ g) (ap (λ (m : ℕ). keeps_parameter set vs m n) (zero_plus f) ∙ q))

  pub named_kept : (f : ℕ) (d : Doing) (x : ℕ) → IsIn (doings_of p f) d → kept_names words d x ≡ true → keeps_variable set vs p x ≡ true
  named_kept f d x m h = by_taken (is_taken p.functions x) refl
    where
      by_taken : (b : Bool) → is_taken p.functions x ≡ b → keeps_variable set vs p x ≡ true
      by_taken true q =
          let w = taken_by p.functions x q in
          let at = is_parameter_of p w.function w.place x w.is in
          let same = own.parameters_own f w.function w.place x d (contains_of_in (doings_of p f) d m) (kept_named words d x h) at in
          let here = subst (λ (g : ℕ). slice_get (parameters p g) w.place ≡ Some x) same at in
          parameter_stays f w.place x here (owners_kept f d m (kept_number words d x h)) (parameter_named f w.place x (fit.inside f d m) here (naming f d x m h))
      by_taken false q =
          or_right (is_taken_still (keeps_function set vs) (keeps_parameter set vs) 0 p.functions x) _
          (and_from (not (is_taken p.functions x)) (stays words p x) (ap not q) (functions_same words p.functions x ∙ named_of_in words (program_doings p) d x (in_program p f d m) h))

  pub parameters_stay : (f n x : ℕ) → slice_get (parameters p f) n ≡ Some x → keeps_variable set vs p x ≡ (keeps_function set vs f && keeps_parameter set vs f n)
  parameters_stay f n x at = same_tests (keeps_variable set vs p x) (keeps_function set vs f && keeps_parameter set vs f n) both (λ h. let b = and_parts (keeps_function set vs f) (keeps_parameter set vs f n) h in parameter_stays f n x at b.0 b.1)
    where
      taken : is_taken p.functions x ≡ true
      taken = taken_there p.functions f n x (parameter_is p f n x at)

      both : keeps_variable set vs p x ≡ true → (keeps_function set vs f && keeps_parameter set vs f n) ≡ true
      both h = elim (or_cases (is_taken_still (keeps_function set vs) (keeps_parameter set vs) 0 p.functions x) (not (is_taken p.functions x) && stays words p x) h) [
        | inl b ↦
            let w = there_still (keeps_function set vs) (keeps_parameter set vs) 0 p.functions x b in
            let same = own.parameters_once w.number f w.place n x (is_parameter_of p w.number w.place x w.is) at in
            let g : keeps_function set vs w.number ≡ true = ap (keeps_function set vs) (sym (zero_plus w.number)) ∙ w.function_stays in
            let q : keeps_parameter set vs w.number w.place ≡ true = ap (λ (m : ℕ). keeps_parameter set vs m w.place) (sym (zero_plus w.number)) ∙ w.parameter_stays in
            and_from (keeps_function set vs f) (keeps_parameter set vs f n) (subst (λ (m : ℕ). keeps_function set vs m ≡ true) same.0 g)
            (subst (λ (m : ℕ). keeps_parameter set vs f m ≡ true) same.1 (subst (λ (m : ℕ). keeps_parameter set vs m w.place ≡ true) same.0 q))
        | inr b ↦ false_true (sym (ap not taken) ∙ (and_parts (not (is_taken p.functions x)) (stays words p x) b).0)
      ]

  pub variables_stay : (x : ℕ) → keeps_variable set vs p x ≡ true → is_taken p.functions x ≡ false → stays words p x ≡ true
  variables_stay x h free = elim (or_cases (is_taken_still (keeps_function set vs) (keeps_parameter set vs) 0 p.functions x) (not (is_taken p.functions x) && stays words p x) h) [
    | inl b ↦
        let w = there_still (keeps_function set vs) (keeps_parameter set vs) 0 p.functions x b in
        false_true (sym free ∙ taken_there p.functions w.number w.place x w.is)
    | inr b ↦ (and_parts (not (is_taken p.functions x)) (stays words p x) b).1
  ]
