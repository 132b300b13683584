-- The projection of the body of a function: its code, and what its outermost block declares.
use Rattle.std.proofs.Common.{◌≡◌, ℕ, zero, suc, List, [], ◌∷◌, map, Bool, true, false, ◌||◌, Option, Some, None, refl, sym, ap, ◌∙◌, subst}
use Rattle.std.specs.Prelude.{slice_get, option_map, ◌&&◌, if◌then◌else◌}
use Rattle.std.specs.List.{list_all, list_any}
use Rattle.std.specs.Option.{option_map_or}
use Rattle.std.proofs.lemmas.Bool.{and_parts, or_left, or_right}
use Rattle.c_tree.specs.declared.program.Function.{Function}
use Rattle.c_tree.specs.declared.program.Program.{Program}
use Rattle.c_tree.specs.declared.statement.Statement.{Statement}
use Rattle.c_tree.specs.declared.types.CType.{CType}
use Rattle.c_language.specs.Code.{Code, End, declared_in, part, code}
use Rattle.c_language.specs.TreeTypes.{shape_of}
use Rattle.c_language.specs.declared.expr_type.ExprType.{ExprType}
use Rattle.c_language.proofs.CodeLemmas.{list_of-code}
use Rattle.c_language.proofs.Options.{none_there, some_same}
use Rattle.c_meaning.specs.Activations.{Routine, routine_of}
use Rattle.kept_numbers.specs.Ranks.{rank}
use Rattle.projection.specs.Kept.{KeptWords, Kept}
use Rattle.projection.specs.Names.{any_of, refers, body_refers}
use Rattle.projection.specs.Projection.{projected_function}
use Rattle.projection_laws.specs.Staying.{all_clear, is_clear, rest, IsClear}
use Rattle.own_words.specs.OwnWords.{words_kept}
use Rattle.own_words.specs.OwnWords as own
use Rattle.own_words.proofs.Forms.{all_left}
use Rattle.own_words.proofs.Lists.{Among, among_contains}
use Rattle.own_words.proofs.Lists.Among.{first, next}
use Rattle.simulation_places.specs.ProjectedCode.{renamed_all, project_code, IsNested}
use Rattle.simulation_places.specs.LikeParts.{projected_routine}
use Rattle.simulation_places.specs.Counterparts.{ranks_of}
use Rattle.simulation_programs.proofs.Layers.{MetAll, all_fit}

any_refers : (w : KeptWords) (xs : List Statement) (v : ℕ) → any_of (map (refers w) xs) v ≡ body_refers w xs v
any_refers w [] v = refl
any_refers w (x ∷ xs) v = ap (λ b. refers w x v || b) (any_refers w xs v)

clear_body : (keeps vars : ℕ → Bool) (xs : List Statement) → all_clear (map (rest keeps vars) xs) ≡ list_all (is_clear keeps vars) xs
clear_body keeps vars [] = refl
clear_body keeps vars (x ∷ xs) = ap (λ b. is_clear keeps vars x && b) (clear_body keeps vars xs)

function_among : (fs : List Function) (f : ℕ) (c : Function) → slice_get fs f ≡ Some c → Among fs c
function_among [] f c at = none_there at
function_among (d ∷ fs) zero c at = subst (λ (y : Function). Among (d ∷ fs) y) (some_same at) first
function_among (d ∷ fs) (suc f) c at = next (function_among fs f c at)

given_or_none : (b : Bool) (o : Option CType) → option_map shape_of (if b then o else None) ≡ (if b then option_map shape_of o else None)
given_or_none true o = refl
given_or_none false o = refl

module _ (p : Program) (k : Kept ℕ) (clear : IsClear k.statement k.variable p) (hangs : own.HangsTogether p k) where
  clear_at : (fs : List Function) (c : Function) → Among fs c → list_all (λ (f : Function). list_all (is_clear k.statement k.variable) f.body) fs ≡ true → list_all (is_clear k.statement k.variable) c.body ≡ true
  clear_at [] c m h = elim m [ ]
  clear_at (d ∷ fs) c first h = (and_parts (list_all (is_clear k.statement k.variable) c.body) _ h).0
  clear_at (d ∷ fs) c (next m) h = clear_at fs c m (and_parts (list_all (is_clear k.statement k.variable) d.body) _ h).1

  stays_at : (fs : List Function) (c : Function) (v : ℕ) → Among fs c → body_refers (words_kept k) c.body v ≡ true → list_any (λ (f : Function). body_refers (words_kept k) f.body v) fs ≡ true
  stays_at [] c v m h = elim m [ ]
  stays_at (d ∷ fs) c v first h = or_left (body_refers (words_kept k) c.body v) _ h
  stays_at (d ∷ fs) c v (next m) h = or_right (body_refers (words_kept k) d.body v) _ (stays_at fs c v m h)

  -- what is asked of the statements of each function
  body_met : (c : Function) → Among p.functions c → MetAll p k c.body
  body_met c m = record {
    clear_is = clear_body k.statement k.variable c.body ∙ clear_at p.functions c m clear;
    names_stay = λ v h. hangs.variables v (stays_at p.functions c v m (sym (any_refers (words_kept k) c.body v) ∙ h));
    lone = λ y q w h. hangs.parts y q (record { function = c; defined = among_contains m; stands = w }) h;
  }

  -- the code of a body, and what its outermost block declares
  pub record BodyProjects (xs : List Statement) : Type 0 where
    pub code_is : code (all_left p k xs) ≡ project_code k (ranks_of k) (code xs)
    pub nested : IsNested k (ranks_of k) (code xs)
    pub locals_are : declared_in (map part (all_left p k xs)) ≡ renamed_all k (ranks_of k) (declared_in (map part xs))

  body_projects : (c : Function) → Among p.functions c → BodyProjects c.body
  body_projects c m =
      let made = all_fit p k c.body (body_met c m) in
      let same = list_of-code c.body in
      record {
        code_is = sym (list_of-code (all_left p k c.body)) ∙ (made.before End ∙ ap (project_code k (ranks_of k)) same);
        nested = subst (IsNested k (ranks_of k)) same (made.nested End tt);
        locals_are = made.declares;
      }

  -- what is left of a function, in the form that runs need
  routine_projects : (f : ℕ) (c : Function) → Among p.functions c → routine_of (projected_function k (rank k.function) f c) ≡ projected_routine k (ranks_of k) f (routine_of c)
  routine_projects f c m =
      let body = body_projects c m in
      ap (λ (xs : List ℕ). record (routine_of (projected_function k (rank k.function) f c)) { locals = xs }) body.locals_are
      ∙ ap (λ (r : Option ExprType). record (routine_of (projected_function k (rank k.function) f c)) { locals = renamed_all k (ranks_of k) (declared_in (map part c.body)); result = r }) (given_or_none (k.gives f) c.result)
      ∙ ap (λ (d : Code). record (projected_routine k (ranks_of k) f (routine_of c)) { code = d }) body.code_is

  -- of any function number
  pub routine_at : (f : ℕ) (o : Option Function) → slice_get p.functions f ≡ o → option_map routine_of (option_map (projected_function k (rank k.function) f) o) ≡ option_map (projected_routine k (ranks_of k) f) (option_map routine_of o)
  routine_at f None at = refl
  routine_at f (Some c) at = ap Some (routine_projects f c (function_among p.functions f c at))

  pub nested_at : (f : ℕ) (o : Option Function) → slice_get p.functions f ≡ o → IsNested k (ranks_of k) (option_map_or (λ (r : Routine). r.code) (option_map routine_of o) End)
  nested_at f None at = tt
  nested_at f (Some c) at = (body_projects c (function_among p.functions f c at)).nested
