-- A program that is a projection but for lines has what is kept of the program.
use Rattle.std.proofs.Common.{◌≡◌, ℕ, List, [], ◌∷◌, ◌++◌, length, Bool, true, false, Option, Some, None, refl, sym, ap, ◌∙◌, subst}
use Rattle.std.specs.Prelude.{slice_get, option_map, unwrap_or}
use Rattle.std.specs.Option.{option_map_or}
use Rattle.std.proofs.lemmas.Option.{slice_get-map}
use Rattle.c_arith.specs.declared.int_type.IntType.TheVariants.{Int}
use Rattle.c_tree.specs.Unlined.{SameButLines}
use Rattle.c_tree.specs.declared.program.Init.{Init}
use Rattle.c_tree.specs.declared.program.Item.{Item}
use Rattle.c_tree.specs.declared.program.Item.TheVariants as item
use Rattle.c_tree.specs.declared.program.Program.{Program}
use Rattle.c_tree.specs.declared.program.Var.{Var}
use Rattle.c_language.specs.Code.{End}
use Rattle.c_language.specs.DeclaredTypes.{integer}
use Rattle.c_language.specs.Programs.{IsWellFormed}
use Rattle.c_language.specs.TreeTypes.{shape_of, type_of_variable}
use Rattle.c_meaning.specs.Activations.{Routine, Global, Executable, routine_of, globals_in, executable, code_at}
use Rattle.dep_model.specs.declared.edge.Edge.{Edge}
use Rattle.dep_model.specs.Doings.{program_doings, doings_of}
use Rattle.dep_model.specs.ClosedSets.{IsProjectable}
use Rattle.dep_model.specs.SystemGraph.{Analysis, vertices_of, AreSystemEdges}
use Rattle.dep_model.proofs.Membership.{in_of_contains}
use Rattle.kept_numbers.specs.Ranks.{rank}
use Rattle.projection.specs.Kept.{Kept}
use Rattle.projection.specs.KeptVertices.{kept_of, projection}
use Rattle.projection.specs.Renumbering.{renamed_init}
use Rattle.projection.specs.Projection.{if_so, projected_var, projected_items, projected_program}
use Rattle.numbered_texts.proofs.HavingMain.{has_main}
use Rattle.numbered_texts.proofs.NumbersButLines.{statements_numbered}
use Rattle.shaped_graphs.proofs.NumberLaws.{numbered_apart}
use Rattle.own_words.proofs.Names.{get-projected}
use Rattle.hanging_sets.specs.Hanging.{HangsTogether}
use Rattle.kept_texts.proofs.HangingWords.{words_hang}
use Rattle.kept_texts.proofs.WellFormedClear.{hanging_clear}
use Rattle.kept_texts.proofs.WellFormedProjections.{projectable_hangs}
use Rattle.simulation_places.specs.Counterparts.{AreProjected, ranks_of}
use Rattle.simulation_places.specs.ProjectedCode.{project_code, IsNested}
use Rattle.simulation_places.specs.LikeParts.{projected_routine, projected_globals, HasLikeParts}
use Rattle.simulation_programs.proofs.Bodies.{routine_at, nested_at}
use Rattle.simulation_programs.proofs.Functions.{function_at, main_there}
use Rattle.simulation_programs.proofs.KeptParts.{act_as_vertex, call_as_vertex, result_as_vertex}
use Rattle.simulation_programs.proofs.Lines.{same_executable}

-- ---- globals

module _ (k : Kept ℕ) where
  one_global : (b : Bool) (x : Item) (xs ys : List Item) → globals_in (x ∷ []) ≡ [] → globals_in (x ∷ ys) ≡ globals_in ys → globals_in (if_so b (x ∷ []) [] ++ ys) ≡ globals_in ys
  one_global true x xs ys none same = same
  one_global false x xs ys none same = refl

  begun_global : (b : Bool) (x : ℕ) (i : Init) (ys : List Item) (gs : List Global) → globals_in ys ≡ gs → globals_in (if_so b (item.Global x i ∷ []) [] ++ ys) ≡ if_so b (record { variable = x; init = i } ∷ gs) gs
  begun_global true x i ys gs e = ap (λ (hs : List Global). record { variable = x; init = i } ∷ hs) e
  begun_global false x i ys gs e = e

  globals_project : (xs : List Item) → globals_in (projected_items k xs) ≡ projected_globals k (ranks_of k) (globals_in xs)
  globals_project [] = refl
  globals_project (item.Include is_stdlib ∷ xs) = globals_project xs
  globals_project (item.Tag d ∷ xs) = globals_project xs
  globals_project (item.Struct d ∷ xs) = globals_project xs
  globals_project (item.Global x i ∷ xs) = begun_global (k.variable x) (rank k.variable x) (renamed_init (rank k.variable) i) (projected_items k xs) (projected_globals k (ranks_of k) (globals_in xs)) (globals_project xs)
  globals_project (item.Prototype f names is_static ∷ xs) = one_global (k.function f) (item.Prototype (rank k.function f) _ is_static) xs (projected_items k xs) refl refl ∙ globals_project xs
  globals_project (item.Define f ∷ xs) = one_global (k.function f) (item.Define (rank k.function f)) xs (projected_items k xs) refl refl ∙ globals_project xs

-- ---- types

module _ (p : Program) (k : Kept ℕ) where
  abbrev there : Program
  there = projected_program k p

  of_var : (o : Option Var) → option_map_or (λ (v : Var). shape_of v.shape) (option_map (projected_var k (rank k.function)) o) (integer Int) ≡ option_map_or (λ (v : Var). shape_of v.shape) o (integer Int)
  of_var None = refl
  of_var (Some v) = refl

  type_projects : (x : ℕ) → k.variable x ≡ true → type_of_variable there (rank k.variable x) ≡ type_of_variable p x
  type_projects x stays =
      ap (λ o. option_map_or (λ (v : Var). shape_of v.shape) o (integer Int)) (get-projected k (rank k.function) p.vars x stays) ∙ of_var (slice_get p.vars x)

  -- ---- functions

  module _ (ok : IsWellFormed p) (h : HangsTogether p k) where
    routine_projects : (f : ℕ) → k.function f ≡ true → slice_get (executable there).functions (rank k.function f) ≡ option_map (projected_routine k (ranks_of k) f) (slice_get (executable p).functions f)
    routine_projects f kept =
        slice_get-map routine_of there.functions (rank k.function f)
        ∙ ap (option_map routine_of) (function_at k p.functions f kept)
        ∙ routine_at p k (hanging_clear p k ok h) (words_hang p k h ok) f (slice_get p.functions f) refl
        ∙ ap (option_map (projected_routine k (ranks_of k) f)) (sym (slice_get-map routine_of p.functions f))

    pub parts_there : HasLikeParts p there k (ranks_of k)
    parts_there = record {
      structs_are = refl;
      members_are = refl;
      types_are = type_projects;
      globals_are = globals_project k p.items;
      routines_are = routine_projects;
    }

    -- of a projection but for lines
    pub like_parts : (q : Program) → SameButLines q there → HasLikeParts p q k (ranks_of k)
    like_parts q same =
        let is : executable q ≡ executable there = same_executable q there same in
        let parts = parts_there in
        record {
          structs_are = ap (λ (e : Executable). e.structs) is ∙ parts.structs_are;
          members_are = ap (λ (e : Executable). e.typing.member) is ∙ parts.members_are;
          types_are = λ x stays. ap (λ (e : Executable). e.typing.variable (rank k.variable x)) is ∙ parts.types_are x stays;
          globals_are = ap (λ (e : Executable). e.globals) is ∙ parts.globals_are;
          routines_are = λ f kept. ap (λ (e : Executable). slice_get e.functions (rank k.function f)) is ∙ parts.routines_are f kept;
        }

    body_projects : (f : ℕ) → k.function f ≡ true → code_at (executable there) (rank k.function f) ≡ project_code k (ranks_of k) (code_at (executable p) f)
    body_projects f kept =
        ap (λ (o : Option Routine). option_map_or (λ (r : Routine). r.code) o End) (routine_projects f kept) ∙ of_routine (slice_get (executable p).functions f)
      where
        of_routine : (o : Option Routine) → option_map_or (λ (r : Routine). r.code) (option_map (projected_routine k (ranks_of k) f) o) End ≡ project_code k (ranks_of k) (option_map_or (λ (r : Routine). r.code) o End)
        of_routine None = refl
        of_routine (Some r) = refl

    body_nested : (f : ℕ) → IsNested k (ranks_of k) (code_at (executable p) f)
    body_nested f =
        subst (λ (o : Option Routine). IsNested k (ranks_of k) (option_map_or (λ (r : Routine). r.code) o End)) (sym (slice_get-map routine_of p.functions f))
        (nested_at p k (hanging_clear p k ok h) (words_hang p k h ok) f (slice_get p.functions f) refl)

    -- ---- main

    -- its number here and there
    pub record HasMain : Type 0 where
      pub number : ℕ
      pub here : (executable p).main ≡ number
      pub there_too : (executable there).main ≡ rank k.function number
      pub kept : k.function number ≡ true

    pub main_projects : HasMain
    main_projects =
        let m = has_main p ok in
        let kept = h.main m.0 m.1 in
        record {
          number = m.0;
          here = ap (λ o. unwrap_or o (length p.functions)) m.1;
          there_too = ap (λ o. unwrap_or o (length there.functions)) (main_there k p.functions m.0 m.1 kept);
          kept = kept;
        }

-- ---- sets of vertices

module _ (p q : Program) (a : Analysis) (edges : List Edge) (set : List Bool) (ok : IsWellFormed p) (are : AreSystemEdges p a edges) (able : IsProjectable p (vertices_of p a) edges set) (same : SameButLines q (projection p (vertices_of p a) set)) where
  abbrev k : Kept ℕ
  k = kept_of set (vertices_of p a) p

  pub projected : AreProjected p q a k (ranks_of k) set
  projected =
      let hangs = projectable_hangs p a edges set ok are able in
      let apart = numbered_apart (program_doings p) p.statements (statements_numbered p ok) in
      let is : executable q ≡ executable (projected_program k p) = same_executable q (projected_program k p) same in
      let main = main_projects p k ok hangs in
      record {
        main_is = ap (λ (e : Executable). e.main) is ∙ (main.there_too ∙ ap (rank k.function) (sym main.here));
        main_kept = ap k.function main.here ∙ main.kept;
        bodies = λ f kept. ap (λ (e : Executable). code_at e (rank k.function f)) is ∙ body_projects p k ok hangs f kept;
        nested = body_nested p k ok hangs;
        acts = λ f i act m. act_as_vertex p a set apart f i act (in_of_contains (doings_of p f) _ m);
        calls = λ f i g to args m. call_as_vertex p a set apart f i g to args (in_of_contains (doings_of p f) _ m);
        results = λ f i g to args m. result_as_vertex p a set apart f i g to args (in_of_contains (doings_of p f) _ m);
        callees = hangs.callees;
      }
