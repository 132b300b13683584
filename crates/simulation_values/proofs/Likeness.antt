-- A projection has what acts and calls need of it.
use Rattle.std.proofs.Common.{◌≡◌, ℕ, ◌==◌, List, [], ◌∷◌, map, Bool, true, false, Option, Some, None, refl, sym, ap, ap₂, ◌∙◌, subst, eq-eqb}
use Rattle.std.specs.Prelude.{slice_get, option_map, if◌then◌else◌}
use Rattle.std.specs.Option.{option_map_or}
use Rattle.std.specs.List.{list_any}
use Rattle.std.proofs.lemmas.Bool.{and_parts, and_from}
use Rattle.std.proofs.lemmas.Option.{slice_get-map}
use Rattle.bit_rows.specs.Sets.{has}
use Rattle.c_tree.specs.declared.expr.Expr.{Expr}
use Rattle.c_tree.specs.declared.program.Function.{Function}
use Rattle.c_tree.specs.declared.program.Program.{Program}
use Rattle.c_tree.specs.declared.statement.Target.{Target}
use Rattle.c_language.specs.Code.{Returns}
use Rattle.c_language.specs.declared.expr_type.ExprType.{ExprType}
use Rattle.c_language.proofs.Tests.{false_true}
use Rattle.c_meaning.specs.Activations.{Routine, Global, routine_of, executable, result_at}
use Rattle.dep_model.specs.declared.vertex.Slot.TheVariants as slot
use Rattle.dep_model.specs.declared.vertex.Vertex.{Vertex}
use Rattle.dep_model.specs.declared.vertex.VertexKind.{VertexKind}
use Rattle.dep_model.specs.declared.vertex.VertexKind.TheVariants as kind
use Rattle.dep_model.specs.Doings.{Does, Calls, program_doings, doings_of}
use Rattle.dep_model.specs.FunctionVertices.{numbers}
use Rattle.dep_model.specs.MayPoint.{parameters}
use Rattle.dep_model.specs.SystemGraph.{Analysis, vertices_of}
use Rattle.dep_model.proofs.Membership.{IsIn, in_of_contains}
use Rattle.projection.specs.Kept.{Kept}
use Rattle.projection.specs.KeptVertices.{kept_words, kept_of, is_argument}
use Rattle.projection.specs.Renumbering.{renamed_init}
use Rattle.projection.specs.Projection.{if_so}
use Rattle.shaped_graphs.proofs.KindLaws.{AreApart}
use Rattle.hanging_sets.specs.Hanging.{HangsTogether}
use Rattle.hanging_sets.proofs.HeldVertices.{same_number, argument_kept}
use Rattle.hanging_sets.proofs.KeptDoings.{argument_owned}
use Rattle.run_facts.specs.Effects.{parameters_at}
use Rattle.simulation_locations.specs.KeptVertices.{any_kept}
use Rattle.simulation_places.specs.ProjectedCode.{Numbering, renamed_all}
use Rattle.simulation_places.specs.LikeParts.{projected_routine, projected_globals, HasLikeParts}
use Rattle.simulation_places.specs.Counterparts.{ranks_of}
use Rattle.simulation_programs.proofs.KeptParts.{both_ways, any_there, one_there}
use Rattle.simulation_steps.specs.Likeness.{HasLikeActs}
use Rattle.simulation_steps.specs.LikeCalls.{AreLikeRoutines, none, routine, HasLikeCalls}

module _ (p q : Program) (k : Kept ℕ) (new : Numbering) (hangs : HangsTogether p k) (like : HasLikeParts p q k new) where
  -- a function that still gives its result has its type
  result_of_routine : (f : ℕ) (o : Option Routine) → k.gives f ≡ true → option_map_or (λ (r : Routine). r.result) (option_map (projected_routine k new f) o) None ≡ option_map_or (λ (r : Routine). r.result) o None
  result_of_routine f None gives = refl
  result_of_routine f (Some r) gives = ap (λ (b : Bool). if b then r.result else None) gives

  results_are : (f : ℕ) → k.function f ≡ true → k.gives f ≡ true → result_at (executable q) (new.function f) ≡ result_at (executable p) f
  results_are f kept gives =
      ap (λ (o : Option Routine). option_map_or (λ (r : Routine). r.result) o None) (like.routines_are f kept) ∙ result_of_routine f (slice_get (executable p).functions f) gives

  pub like_acts : HasLikeActs p q k new
  like_acts = record {
    names_kept = λ f i x act m kept named. hangs.acts f i x act m kept named;
    types_are = like.types_are;
    members_are = λ m. ap (λ (members : _ → ExprType). members m) like.members_are;
    results_are = λ f i e m kept. results_are f (hangs.owners f (Does i (Returns (Some e))) m kept) (hangs.returns f i e m kept);
  }

  -- ---- routines and globals

  like_routine : (g : ℕ) (o u : Option Routine) → u ≡ option_map (projected_routine k new g) o → AreLikeRoutines k new g o u
  like_routine g None u e = subst (AreLikeRoutines k new g None) (sym e) none
  like_routine g (Some r) u e = subst (AreLikeRoutines k new g (Some r)) (sym e) (routine (record { params_are = refl; locals_are = refl }))

  abbrev variables_of : List Global → List ℕ
  variables_of gs = map (λ (g : Global). g.variable) gs

  one_more : (b : Bool) (h : Global) (hs : List Global) (xs : List ℕ) → variables_of hs ≡ xs → variables_of (if_so b (h ∷ hs) hs) ≡ if_so b (h.variable ∷ xs) xs
  one_more true h hs xs e = ap (λ ys. h.variable ∷ ys) e
  one_more false h hs xs e = e

  global_variables : (gs : List Global) → variables_of (projected_globals k new gs) ≡ renamed_all k new (variables_of gs)
  global_variables [] = refl
  global_variables (g ∷ gs) =
      one_more (k.variable g.variable) (record { variable = new.variable g.variable; init = renamed_init new.variable g.init }) (projected_globals k new gs) (renamed_all k new (variables_of gs)) (global_variables gs)

  parameters_same : (g : ℕ) → parameters_at (executable p) g ≡ parameters p g
  parameters_same g = ap (λ (o : Option Routine). option_map_or (λ (r : Routine). r.params) o []) (slice_get-map routine_of p.functions g) ∙ of_function (slice_get p.functions g)
    where
      of_function : (o : Option Function) → option_map_or (λ (r : Routine). r.params) (option_map routine_of o) [] ≡ option_map_or (λ (f : Function). f.params) o []
      of_function None = refl
      of_function (Some f) = refl

-- ---- arguments are kept as their vertices

argument_kind : (i n : ℕ) (x : VertexKind) → is_argument i n x ≡ true → x ≡ kind.ActualIn i (slot.Argument n)
argument_kind i n kind.Entry h = false_true h
argument_kind i n (kind.FormalIn s) h = false_true h
argument_kind i n (kind.FormalOut s) h = false_true h
argument_kind i n (kind.Statement j) h = false_true h
argument_kind i n (kind.Call j) h = false_true h
argument_kind i n (kind.ActualIn j (slot.Argument m)) h =
    let b = and_parts (j == i) (m == n) h in ap₂ (λ (x y : ℕ). kind.ActualIn x (slot.Argument y)) (same_number j i b.0) (same_number m n b.1)
argument_kind i n (kind.ActualIn j slot.Result) h = false_true h
argument_kind i n (kind.ActualIn j (slot.At m)) h = false_true h
argument_kind i n (kind.ActualOut j s) h = false_true h

module _ (p : Program) (a : Analysis) (set : List Bool) (apart : AreApart (program_doings p)) where
  abbrev vs : List Vertex
  vs = vertices_of p a

  argument_as_vertex : (f i g n : ℕ) (to : Target) (args : List Expr) → IsIn (doings_of p f) (Calls i to g args) → (kept_words set vs).argument i n ≡ any_kept p a set (numbers (is_argument i n) f vs)
  argument_as_vertex f i g n to args m =
      both_ways ((kept_words set vs).argument i n) (list_any (λ (v : ℕ). has set v) (numbers (is_argument i n) f vs))
      (λ h. any_there p a set apart (is_argument i n) f (kind.ActualIn i (slot.Argument n)) (own_argument i n) (argument_owned p a set apart f i g n to args m h))
      (λ h. argument_kept set vs f i n (one_there p a set apart (is_argument i n) f (kind.ActualIn i (slot.Argument n)) (argument_kind i n) h))
    where
      own_argument : (j n : ℕ) → is_argument j n (kind.ActualIn j (slot.Argument n)) ≡ true
      own_argument j n = and_from (j == j) (n == n) (eq-eqb j j refl) (eq-eqb n n refl)

  pub like_calls : (q : Program) → HangsTogether p (kept_of set vs p) → HasLikeParts p q (kept_of set vs p) (ranks_of (kept_of set vs p)) → HasLikeCalls p q a (kept_of set vs p) (ranks_of (kept_of set vs p)) set
  like_calls q hangs like =
      let k : Kept ℕ = kept_of set vs p in
      let new : Numbering = ranks_of k in
      record {
        routines = λ g kept. like_routine p q k new hangs like g (slice_get (executable p).functions g) (slice_get (executable q).functions (new.function g)) (like.routines_are g kept);
        globals = ap (map (λ (g : Global). g.variable)) like.globals_are ∙ global_variables p q k new hangs like (executable p).globals;
        parameters = λ g n x at. hangs.parameters_too g n x (subst (λ xs. slice_get xs n ≡ Some x) (parameters_same p q k new hangs like g) at);
        arguments = hangs.arguments;
        names_kept = λ f i g x to args m kept named. hangs.calls f i g x to args m kept named;
        argument_vertices = λ f i g to args m n. argument_as_vertex f i g n to args (in_of_contains (doings_of p f) _ m);
      }
