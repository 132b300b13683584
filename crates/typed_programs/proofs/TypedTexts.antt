-- Types fit in the statements of a function of a text by which no rule is broken.
use Rattle.std.proofs.Common.{◌≡◌, ℕ, ◌+◌, List, [], ◌∷◌, ◌++◌, length, true, Option, Some, None, option_map, refl, sym, ap, subst, ◌∙◌, arith}
use Rattle.std.specs.Prelude.{slice_get, option_and_then, is_some}
use Rattle.std.specs.List.{list_all}
use Rattle.std.proofs.lemmas.Bool.{and_from}
use Rattle.std.proofs.lemmas.Option.{slice_get-map}
use Rattle.c_arith.specs.declared.int_type.IntType.{IntType}
use Rattle.c_tree.specs.declared.expr.Expr.{Expr}
use Rattle.c_tree.specs.declared.program.Init.{Init}
use Rattle.c_tree.specs.declared.program.Program.{Program}
use Rattle.c_tree.specs.declared.program.Var.{Var}
use Rattle.c_tree.specs.declared.types.CType.{CType}
use Rattle.c_tree.specs.declared.raw.expr.RawVar.{RawVar}
use Rattle.c_tree.specs.declared.raw.program.RawHead.{RawHead}
use Rattle.c_tree.specs.declared.raw.program.RawInit.{RawInit}
use Rattle.c_tree.specs.declared.raw.program.RawInit.TheVariants as init
use Rattle.c_tree.specs.declared.raw.program.RawProgram.{RawProgram}
use Rattle.c_tree.specs.declared.raw.statement.RawArg.{RawArg}
use Rattle.c_tree.specs.declared.raw.statement.RawArm.{RawArm}
use Rattle.c_tree.specs.declared.raw.statement.RawLabel.{RawLabel}
use Rattle.c_tree.specs.declared.raw.statement.RawStatement.{RawStatement}
use Rattle.c_tree.specs.declared.raw.statement.RawTarget.{RawTarget}
use Rattle.c_tree.specs.declared.raw.statement.RawTarget.TheVariants as target
use Rattle.c_tree.specs.declared.statement.Arm.{Arm}
use Rattle.c_tree.specs.declared.statement.Statement.{Statement}
use Rattle.c_tree.specs.declared.statement.Statement.TheVariants as s
use Rattle.c_tree.specs.declared.statement.Target.{Target}
use Rattle.c_tree.specs.declared.statement.Target.TheVariants as to_place
use Rattle.c_language.specs.Words.{Bytes}
use Rattle.c_language.specs.CallRules.{head_around}
use Rattle.c_language.specs.Code.{Tests as Tested}
use Rattle.c_language.specs.DeclaredTypes.{defined_functions, item_count, variable_type}
use Rattle.c_language.specs.Options.{IsThere}
use Rattle.c_language.specs.Phrases.{Stand, Part, Calls, Tests, Switches, Phrases, phrase, begun_phrases, declaration, target_phrases}
use Rattle.c_language.specs.ProgramOf.{ctype_with, variable_of, declared_by, variables_in, declaration_id, init_of, expr_of, target_tree}
use Rattle.c_language.specs.Rules.{BreaksNone, AreKept}
use Rattle.c_language.specs.Scopes.{Scope, Meaning, opened, closed, numbered, begun, with_variable, with_target}
use Rattle.c_language.specs.TreeTypes.{shape_of}
use Rattle.c_language.specs.declared.expr_type.ExprType.{ExprType}
use Rattle.c_language.proofs.Lists.{all_append}
use Rattle.c_language.proofs.Options.{some_same, map_there, value_there}
use Rattle.c_language.proofs.PhraseLists.{begun_nothing, kept_second}
use Rattle.c_language.proofs.ScopeNumbers.{begun_variables}
use Rattle.c_print_laws.proofs.Scoping.{declared_count, count_append, target_count}
use Rattle.c_print_laws.proofs.Told.{Stands as StandsAt, AreTold, told_first, told_rest, told_later}
use Rattle.dep_model.specs.Doings.{Doing, Does, doings, body_doings}
use Rattle.dep_model.proofs.DoingForms.{arms_doings, part_doings, doings-Declare, doings-Assign, doings-Bump, doings-Invoke, doings-Fetch, doings-Write, doings-Print, doings-Heap, doings-Release, doings-Return, doings-If, doings-While, doings-Do, doings-Switch, doings-Block, doings-For}
use Rattle.dep_model.proofs.StructOrder.{tree_typed}
use Rattle.typed_programs.specs.Needs.{Need, Picks, Starts, target_needs, needs, body_needs}
use Rattle.typed_programs.specs.TreeOperands.{Declarations, declarations, variable_shape}
use Rattle.typed_programs.specs.TypedStatements.{need_fits, doing_fits}
use Rattle.typed_programs.proofs.NeedForms.{arms_needs, part_needs, needs-Declare, needs-Assign, needs-Bump, needs-Invoke, needs-Fetch, needs-Write, needs-Print, needs-Heap, needs-Release, needs-Return, needs-If, needs-While, needs-Do, needs-Switch, needs-Block, needs-For}
use Rattle.typed_programs.proofs.Seeing.{NamesStand, names_more, Known}
use Rattle.typed_programs.proofs.Treed.{CallTreed, fetched, written, printed, released, invoked, Treed, declared, assigned, bumped, called, allocated, chosen, repeated, done_first, looped, switched, enclosed, returned, AreTreed, none, more, PartTreed, absent, present, ArmsTreed, no_arm, arm}
use Rattle.typed_programs.proofs.TypedPhrases.{ResultStands, FunctionsStand, IsDeclared, IsTargetOf, sets_fit, bumps_fit, tests_fit, switch_fits, begins_fit, fetch_fits, write_fits, release_fits, print_fits, invoke_fits, allocates_fit, returns_fit}

module _ (raw : RawProgram) (p : Program) where
  abbrev d : Declarations
  d = declarations p

  -- a variable that the program has is declared with the type that is written
  pub variable_stands : (l : ℕ) (owner : Option ℕ) (stand : Stand) (n : ℕ) (var : RawVar) (i : RawInit) → StandsAt p n (variable_of raw l owner stand var i)
      → (variable_shape d n ≡ variable_type raw var i) × IsThere (variable_type raw var i)
  variable_stands l owner stand n var i h =
      let m = map_there _ (ctype_with raw (item_count i) var.shape) h.var h.is in
      let typed : variable_type raw var i ≡ Some (shape_of h.var.shape) = tree_typed raw (item_count i) var.shape ∙ ap (option_map shape_of) m.there ∙ ap (λ (v : Var). Some (shape_of v.shape)) m.same in
      let at : variable_shape d n ≡ Some (shape_of h.var.shape) = slice_get-map (λ (v : Var). shape_of v.shape) p.vars n ∙ ap (option_map (λ (v : Var). shape_of v.shape)) h.at in
      (at ∙ sym typed, subst IsThere (sym typed) tt)

  pub names_declared : (scope : Scope) (var : RawVar) (i : RawInit) → (variable_shape d scope.variables ≡ variable_type raw var i) × IsThere (variable_type raw var i)
      → NamesStand d scope.names → NamesStand d (with_variable raw var i scope).names
  names_declared scope var i at h = names_more d scope.names (record { name = var.name; meaning = Meaning.Variable scope.variables (variable_type raw var i) }) h at

  declared_at : (l : ℕ) (scope : Scope) (stand : Stand) (var : RawVar) (i : RawInit) (rest : Phrases) → AreTold raw p scope.variables (declaration raw l scope stand var i ++ rest)
      → (variable_shape d scope.variables ≡ variable_type raw var i) × IsThere (variable_type raw var i)
  declared_at l scope stand var i rest told = variable_stands l scope.owner stand scope.variables var i told.stand.0

  target_declared : (l : ℕ) (scope : Scope) (stand : Stand) (to : RawTarget) (rest : Phrases) → AreTold raw p scope.variables (target_phrases raw l scope stand to ++ rest)
      → IsDeclared raw d (with_target raw to scope) scope.variables to
  target_declared l scope stand target.None rest told = tt
  target_declared l scope stand (target.Place a) rest told = tt
  target_declared l scope stand (target.Declared v) rest told = declared_at l scope stand v init.None rest told

  target_names : (l : ℕ) (scope : Scope) (to : RawTarget) → IsDeclared raw d (with_target raw to scope) scope.variables to → NamesStand d scope.names → NamesStand d (with_target raw to scope).names
  target_names l scope target.None at h = h
  target_names l scope (target.Place a) at h = h
  target_names l scope (target.Declared v) at h = names_declared scope v init.None at h

  target_made : (scope : Scope) (to : RawTarget) (t : Target) → target_tree raw scope to ≡ Some t → IsTargetOf raw d (with_target raw to scope) scope.variables to t
  target_made scope target.None t e = sym (some_same e)
  target_made scope (target.Place a) t e = let m = map_there to_place.Place (expr_of raw scope a) t e in (m.value, m.there, sym m.same)
  target_made scope (target.Declared v) t e = sym (some_same e)

  target_owner : (scope : Scope) (to : RawTarget) → (with_target raw to scope).owner ≡ scope.owner
  target_owner scope target.None = refl
  target_owner scope (target.Place a) = refl
  target_owner scope (target.Declared v) = refl

  begun_owner : (i : RawInit) (scope : Scope) → (begun i scope).owner ≡ scope.owner
  begun_owner init.None scope = refl
  begun_owner (init.One a) scope = refl
  begun_owner (init.Items es) scope = refl

  begun_names : (i : RawInit) (scope : Scope) → NamesStand d scope.names → NamesStand d (begun i scope).names
  begun_names init.None scope h = h
  begun_names (init.One a) scope h = h
  begun_names (init.Items es) scope h = h

  module _ (known : Known raw d) (functions : FunctionsStand raw d) (owner : Option ℕ) (head : RawHead) (result : Option CType)
      (around : option_and_then (slice_get (defined_functions raw)) owner ≡ Some head) (stands : ResultStands raw head result) where
    -- a place in the function, at which names stand for what is declared
    pub record Place (scope : Scope) : Type 0 where
      pub names : NamesStand d scope.names
      pub owner_is : scope.owner ≡ owner

    place : (scope next : Scope) → next.names ≡ scope.names → next.owner ≡ scope.owner → Place scope → Place next
    place scope next names owner_same h = record { names = subst (NamesStand d) (sym names) h.names; owner_is = owner_same ∙ h.owner_is }

    abbrev AllFit : List Doing → Type 0
    AllFit ds = list_all (doing_fits d result) ds ≡ true

    abbrev AreMet : List Need → Type 0
    AreMet es = list_all (need_fits d) es ≡ true

    -- types fit in statements, what their switches are over are integers, the variables that begin there have types, and behind them is a place again, with so many variables more than n
    pub record Fits (n : ℕ) (ps : Phrases) (ds : List Doing) (es : List Need) (after : Scope) : Type 0 where
      pub fit : AllFit ds
      pub met : AreMet es
      pub place_after : Place after
      pub counts : n + declared_count raw ps ≡ after.variables

    -- a statement of one act, without a switch
    one_fits : (y : Statement) (a : Doing) → doings y ≡ a ∷ [] → doing_fits d result a ≡ true → AllFit (doings y)
    one_fits y a is h = subst AllFit (sym is) (and_from _ _ h refl)

    no_needs : (y : Statement) → needs y ≡ [] → AreMet (needs y)
    no_needs y is = subst AreMet (sym is) refl

    -- a variable that has a type
    variable_met : (n : ℕ) (o : Option ExprType) → variable_shape d n ≡ o → IsThere o → AreMet (Starts n ∷ [])
    variable_met n o is there = let v = value_there o there in and_from (is_some (variable_shape d n)) true (ap is_some (is ∙ v.1)) refl

    target_met : (scope : Scope) (n : ℕ) (to : RawTarget) (t : Target) → IsDeclared raw d scope n to → IsTargetOf raw d scope n to t → AreMet (target_needs t)
    target_met scope n target.None t at is = subst (λ z. AreMet (target_needs z)) (sym is) refl
    target_met scope n (target.Place a) t at is = subst (λ z. AreMet (target_needs z)) (sym is.2) refl
    target_met scope n (target.Declared v) t at is =
        subst (λ z. AreMet (target_needs z)) (sym is) (variable_met n (variable_type raw v init.None) at.0 at.1)

    -- a statement of one phrase
    phrase_fits : (l : ℕ) (scope : Scope) (part : Part) (y : Statement) (a : Doing) → declared_by raw l scope part ≡ [] → doings y ≡ a ∷ [] → needs y ≡ [] → doing_fits d result a ≡ true → Place scope
        → Fits scope.variables (phrase l scope part ∷ []) (doings y) (needs y) (numbered scope)
    phrase_fits l scope part y a nothing is pick h at = record {
      fit = one_fits y a is h;
      met = no_needs y pick;
      place_after = record { names = at.names; owner_is = at.owner_is };
      counts = let c : declared_count raw (phrase l scope part ∷ []) ≡ 0 = ap length (ap (λ vs. vs ++ []) nothing) in omega (arith, c);
    }

    -- ---- a declaration

    declare_fits : (l : ℕ) (scope : Scope) (stand : Stand) (v : RawVar) (i : RawInit) (n : Init) → init_of raw (with_variable raw v i scope) i ≡ Some n → Place scope
        → AreTold raw p scope.variables (declaration raw l scope stand v i)
        → Fits scope.variables (declaration raw l scope stand v i) (doings (s.Declare (declaration_id i scope.statements) l scope.variables n)) (needs (s.Declare (declaration_id i scope.statements) l scope.variables n)) (begun i (with_variable raw v i scope))
    declare_fits l scope stand v i n e at told =
        let here = variable_stands l scope.owner stand scope.variables v i told.stand.0 in
        let names = names_declared scope v i here at.names in
        record {
          fit = by_init i n e here names told.kept.1;
          met = subst AreMet (sym (needs-Declare (declaration_id i scope.statements) l scope.variables n)) (variable_met scope.variables (variable_type raw v i) here.0 here.1);
          place_after = record { names = begun_names i (with_variable raw v i scope) names; owner_is = begun_owner i (with_variable raw v i scope) ∙ at.owner_is };
          counts =
              let a : declared_count raw (begun_phrases l (with_variable raw v i scope) stand v i) ≡ 0 = ap length (begun_nothing raw l (with_variable raw v i scope) stand v i) in
              let b : (begun i (with_variable raw v i scope)).variables ≡ scope.variables + 1 = begun_variables i (with_variable raw v i scope) in
              omega (arith, a, b);
        }
      where
        by_init : (j : RawInit) (m : Init) → init_of raw (with_variable raw v j scope) j ≡ Some m → (variable_shape d scope.variables ≡ variable_type raw v j) × IsThere (variable_type raw v j)
            → NamesStand d (with_variable raw v j scope).names → AreKept raw (begun_phrases l (with_variable raw v j scope) stand v j)
            → AllFit (doings (s.Declare (declaration_id j scope.statements) l scope.variables m))
        by_init init.None m e here names kept = subst AllFit (sym (doings-Declare None l scope.variables m)) refl
        by_init (init.One a) m e here names kept =
            one_fits _ _ (doings-Declare (Some scope.statements) l scope.variables m)
            (begins_fit raw d known (with_variable raw v (init.One a) scope) names stand v (init.One a) scope.variables m kept.0 here.0 here.1 e)
        by_init (init.Items es) m e here names kept =
            one_fits _ _ (doings-Declare (Some scope.statements) l scope.variables m)
            (begins_fit raw d known (with_variable raw v (init.Items es) scope) names stand v (init.Items es) scope.variables m kept.0 here.0 here.1 e)

    -- ---- calls, and malloc

    module _ (l : ℕ) (scope : Scope) (stand : Stand) (to : RawTarget) (part : Part) (none_declared : declared_by raw l (with_target raw to scope) part ≡ []) (at : Place scope)
        (told : AreTold raw p scope.variables (target_phrases raw l scope stand to ++ (phrase l (with_target raw to scope) part ∷ []))) where
      abbrev inner : Scope
      inner = with_target raw to scope

      kept_behind : BreaksNone raw inner part
      kept_behind = (kept_second raw (target_phrases raw l scope stand to) (phrase l inner part ∷ []) told.kept).0

      declared_here : IsDeclared raw d inner scope.variables to
      declared_here = target_declared l scope stand to (phrase l inner part ∷ []) told

      names_behind : NamesStand d inner.names
      names_behind = target_names l scope to declared_here at.names

      behind_target : (y : Statement) (a : Doing) (es : List Need) → doings y ≡ a ∷ [] → needs y ≡ es → AreMet es → doing_fits d result a ≡ true
          → Fits scope.variables (target_phrases raw l scope stand to ++ (phrase l inner part ∷ [])) (doings y) (needs y) (numbered inner)
      behind_target y a es is pick met h = record {
        fit = one_fits y a is h;
        met = subst AreMet (sym pick) met;
        place_after = record { names = names_behind; owner_is = target_owner scope to ∙ at.owner_is };
        counts =
            let a1 : declared_count raw (target_phrases raw l scope stand to ++ (phrase l inner part ∷ [])) ≡ declared_count raw (target_phrases raw l scope stand to) + declared_count raw (phrase l inner part ∷ []) =
            count_append raw (target_phrases raw l scope stand to) (phrase l inner part ∷ []) in
            let b : declared_count raw (phrase l inner part ∷ []) ≡ 0 = ap length (ap (λ vs. vs ++ []) none_declared) in
            let c : scope.variables + declared_count raw (target_phrases raw l scope stand to) ≡ inner.variables = target_count raw l scope stand to in
            omega (arith, a1, b, c);
      }

    call_fits : (l : ℕ) (scope : Scope) (stand : Stand) (to : RawTarget) (f : Bytes) (args : List RawArg) (at : Place scope)
        (told : AreTold raw p scope.variables (target_phrases raw l scope stand to ++ (phrase l (with_target raw to scope) (Calls stand to f args) ∷ []))) (y : Statement)
        → CallTreed raw (with_target raw to scope) scope.statements l (target_tree raw scope to) f args y
        → Fits scope.variables (target_phrases raw l scope stand to ++ (phrase l (with_target raw to scope) (Calls stand to f args) ∷ [])) (doings y) (needs y) (numbered (with_target raw to scope))
    call_fits l scope stand to f args at told y made = by_call y made
      where
        kept : BreaksNone raw (with_target raw to scope) (Calls stand to f args)
        kept = kept_behind l scope stand to (Calls stand to f args) refl at told

        names : NamesStand d (with_target raw to scope).names
        names = names_behind l scope stand to (Calls stand to f args) refl at told

        here : IsDeclared raw d (with_target raw to scope) scope.variables to
        here = declared_here l scope stand to (Calls stand to f args) refl at told

        by_call : (z : Statement) → CallTreed raw (with_target raw to scope) scope.statements l (target_tree raw scope to) f args z
            → Fits scope.variables (target_phrases raw l scope stand to ++ (phrase l (with_target raw to scope) (Calls stand to f args) ∷ [])) (doings z) (needs z) (numbered (with_target raw to scope))
        by_call _ (fetched {t = t} is target_is) =
            behind_target l scope stand to (Calls stand to f args) refl at told _ _ _ (doings-Fetch scope.statements l t) (needs-Fetch scope.statements l t) (target_met (with_target raw to scope) scope.variables to t here (target_made scope to t target_is))
            (fetch_fits raw d known (with_target raw to scope) names stand to f args kept is scope.variables t here (target_made scope to t target_is))
        by_call _ (written {x = x} is value) =
            behind_target l scope stand to (Calls stand to f args) refl at told _ _ _ (doings-Write scope.statements l x) (needs-Write scope.statements l x) refl
            (write_fits raw d known (with_target raw to scope) names stand to f args kept is x value)
        by_call _ (printed {format = format} {xs = xs} is formatted values) =
            behind_target l scope stand to (Calls stand to f args) refl at told _ _ _ (doings-Print scope.statements l format xs) (needs-Print scope.statements l format xs) refl
            (print_fits raw d known (with_target raw to scope) names stand to f args kept is format xs formatted values)
        by_call _ (released {x = x} is value) =
            behind_target l scope stand to (Calls stand to f args) refl at told _ _ _ (doings-Release scope.statements l x) (needs-Release scope.statements l x) refl
            (release_fits raw d known (with_target raw to scope) names stand to f args kept is x value)
        by_call _ (invoked {t = t} {g = g} {xs = xs} own target_is numbered_as values) =
            behind_target l scope stand to (Calls stand to f args) refl at told _ _ _ (doings-Invoke scope.statements l t g xs) (needs-Invoke scope.statements l t g xs) (target_met (with_target raw to scope) scope.variables to t here (target_made scope to t target_is))
            (invoke_fits raw d known (with_target raw to scope) names stand to f args kept functions own scope.variables g t xs here (target_made scope to t target_is) numbered_as values)

    -- ---- statements one after another, and behind a test

    then_fits : {n : ℕ} {ps qs : Phrases} {ds fs : List Doing} {es gs : List Need} {middle after : Scope} → Fits n ps ds es middle → Fits middle.variables qs fs gs after
        → Fits n (ps ++ qs) (ds ++ fs) (es ++ gs) after
    then_fits {n} {ps} {qs} {ds} {fs} {es} {gs} {middle} {after} a b = record {
      fit = all_append (doing_fits d result) ds fs a.fit b.fit;
      met = all_append (need_fits d) es gs a.met b.met;
      place_after = b.place_after;
      counts = let c = count_append raw ps qs in let x = a.counts in let y = b.counts in omega (arith, c, x, y);
    }

    tested_fits : (l : ℕ) (scope next last : Scope) (part : Part) (ps : Phrases) (x : Expr) (y : Statement) (ds : List Doing) (es more_es : List Need) → declared_by raw l scope part ≡ [] → doing_fits d result (Does scope.statements (Tested x)) ≡ true
        → doings y ≡ Does scope.statements (Tested x) ∷ ds → needs y ≡ more_es → AreMet more_es → Fits scope.variables ps ds es last → Place next → next.variables ≡ last.variables
        → Fits scope.variables (phrase l scope part ∷ ps) (doings y) (needs y) next
    tested_fits l scope next last part ps x y ds es more_es none_declared h is pick met a at same = record {
      fit = subst AllFit (sym is) (and_from _ _ h a.fit);
      met = subst AreMet (sym pick) met;
      place_after = at;
      counts =
          let b : declared_count raw (phrase l scope part ∷ ps) ≡ declared_count raw ps = ap length (ap (λ vs. vs ++ variables_in raw ps) none_declared) in
          let c = a.counts in
          omega (arith, b, c, same);
    }

    -- a block ends
    closes : (scope last : Scope) → Place scope → Place (closed (numbered scope) last)
    closes scope last at = record { names = at.names; owner_is = at.owner_is }

    opens : (scope : Scope) → Place scope → Place (opened (numbered scope))
    opens scope at = record { names = at.names; owner_is = at.owner_is }

    ends : (scope last : Scope) → Place scope → Place (closed scope last)
    ends scope last at = record { names = at.names; owner_is = at.owner_is }

    begins_block : (scope : Scope) → Place scope → Place (opened scope)
    begins_block scope at = record { names = at.names; owner_is = at.owner_is }

    mutual
      typed : {stand : Stand} {scope : Scope} {x : RawStatement} {ps : Phrases} {y : Statement} {after : Scope} → Treed raw stand scope x ps y after → Place scope → AreTold raw p scope.variables ps
          → Fits scope.variables ps (doings y) (needs y) after
      typed (declared {stand = stand} {scope = scope} {l = l} {v = v} {i = i} {n = n} e) at told = declare_fits l scope stand v i n e at told
      typed (assigned {scope = scope} {l = l} {left = left} {right = right} {op = op} {x = x} {y = y} hx hy) at told =
          phrase_fits l scope _ _ _ refl (doings-Assign scope.statements l x op y) (needs-Assign scope.statements l x op y) (sets_fit raw d known scope at.names left op right x y told.kept.0 hx hy) at
      typed (bumped {scope = scope} {l = l} {left = left} {up = up} {before = before} {x = x} hx) at told =
          phrase_fits l scope _ _ _ refl (doings-Bump scope.statements l x up before) (needs-Bump scope.statements l x up before) (bumps_fit raw d known scope at.names left x told.kept.0 hx) at
      typed (called {stand = stand} {scope = scope} {l = l} {to = to} {f = f} {args = args} {y = y} made) at told = call_fits l scope stand to f args at told y made
      typed (allocated {stand = stand} {scope = scope} {l = l} {to = to} {cast = cast} {n = n} {t = t} {c = c} {k = k} target_is cast_is amount_is) at told =
          behind_target l scope stand to _ refl at told _ _ _ (doings-Heap scope.statements l t c k) (needs-Heap scope.statements l t c k) (target_met (with_target raw to scope) scope.variables to t (declared_here l scope stand to _ refl at told) (target_made scope to t target_is))
          (allocates_fit raw d known (with_target raw to scope) (names_behind l scope stand to _ refl at told) to cast n (kept_behind l scope stand to _ refl at told) scope.variables t k
          (declared_here l scope stand to _ refl at told) (target_made scope to t target_is) amount_is)
      typed (chosen {scope = scope} {after = after} {last = last} {l = l} {test = test} {ps = ps} {qs = qs} {x = x} {xs = xs} {ys = ys} hx ha hb) at told =
          let rest = told_later raw p scope.variables (phrase l scope (Tests test)) (ps ++ qs) refl told in
          let a = typed_all ha (opens scope at) (told_first raw p scope.variables ps qs rest) in
          let middle = closed (numbered scope) after in
          let b = typed_all hb (begins_block middle (closes scope after at)) (told_rest raw p scope.variables after.variables ps qs a.counts rest) in
          let both_fit = then_fits a b in
          tested_fits l scope (closed middle last) last (Tests test) (ps ++ qs) x (s.If scope.statements l x xs ys) _ _ (body_needs xs ++ body_needs ys) refl (tests_fit raw d known scope at.names test x told.kept.0 hx)
          (doings-If scope.statements l x xs ys) (needs-If scope.statements l x xs ys) both_fit.met both_fit (ends middle last (closes scope after at)) refl
      typed (repeated {scope = scope} {after = after} {l = l} {test = test} {ps = ps} {x = x} {xs = xs} hx ha) at told =
          let a = typed_all ha (opens scope at) (told_later raw p scope.variables (phrase l scope (Tests test)) ps refl told) in
          tested_fits l scope (closed (numbered scope) after) after (Tests test) ps x (s.While scope.statements l x xs) _ _ (body_needs xs) refl (tests_fit raw d known scope at.names test x told.kept.0 hx)
          (doings-While scope.statements l x xs) (needs-While scope.statements l x xs) a.met a (closes scope after at) refl
      typed (done_first {scope = scope} {after = after} {l = l} {test = test} {ps = ps} {x = x} {xs = xs} hx ha) at told =
          let a = typed_all ha (opens scope at) (told_later raw p scope.variables (phrase l scope (Tests test)) ps refl told) in
          tested_fits l scope (closed (numbered scope) after) after (Tests test) ps x (s.Do scope.statements l x xs) _ _ (body_needs xs) refl (tests_fit raw d known scope at.names test x told.kept.0 hx)
          (doings-Do scope.statements l x xs) (needs-Do scope.statements l x xs) a.met a (closes scope after at) refl
      typed (looped {scope = scope} {first = first} {second = second} {last = last} {l = l} {test = test} {ps = ps} {qs = qs} {rs = rs} {x = x} {z = z} {y = y} {ys = ys} hi hy hk hb) at told =
          let own = phrase l first (Tests test) in
          let a = typed_part hi (opens scope at) (told_first raw p scope.variables ps (own ∷ (qs ++ rs)) told) in
          let behind = told_rest raw p scope.variables first.variables ps (own ∷ (qs ++ rs)) a.counts told in
          let rest = told_later raw p first.variables own (qs ++ rs) refl behind in
          let b = typed_part hk a.place_after (told_first raw p first.variables qs rs rest) in
          let c = typed_all hb (begins_block second b.place_after) (told_rest raw p first.variables second.variables qs rs b.counts rest) in
          let bc = then_fits b c in
          let tests = tests_fit raw d known first a.place_after.names test y behind.kept.0 hy in
          record {
            fit = subst AllFit (sym (doings-For scope.statements l x y z ys)) (and_from _ _ tests (all_append (doing_fits d result) (part_doings x) (part_doings z ++ body_doings ys) a.fit bc.fit));
            met = subst AreMet (sym (needs-For scope.statements l x y z ys)) (all_append (need_fits d) (part_needs x) (part_needs z ++ body_needs ys) a.met bc.met);
            place_after = ends scope (closed second last) at;
            counts =
                let c1 = count_append raw ps (own ∷ (qs ++ rs)) in
                let c2 : declared_count raw (own ∷ (qs ++ rs)) ≡ declared_count raw (qs ++ rs) = refl in
                let c3 = a.counts in
                let c4 = bc.counts in
                omega (arith, c1, c2, c3, c4);
          }
      typed (switched {scope = scope} {after = after} {l = l} {test = test} {labels = labels} {ps = ps} {x = x} {ys = ys} hx ht ha) at told =
          let a = typed_arms ha (opens scope at) (told_later raw p scope.variables (phrase l scope (Switches test labels)) ps refl told) in
          let k = switch_fits raw d known scope at.names test labels x told.kept.0 hx in
          tested_fits l scope (closed (numbered scope) after) after (Switches test labels) ps x (s.Switch scope.statements l x ys) _ _ (Picks x ∷ arms_needs ys) refl k.1
          (doings-Switch scope.statements l x ys) (needs-Switch scope.statements l x ys) (and_from _ _ k.0 a.met) a (closes scope after at) refl
      typed (enclosed {scope = scope} {after = after} {l = l} {ps = ps} {xs = xs} ha) at told =
          let a = typed_all ha (begins_block scope at) told in
          record {
            fit = subst AllFit (sym (doings-Block l xs)) a.fit;
            met = subst AreMet (sym (needs-Block l xs)) a.met;
            place_after = ends scope after at;
            counts = a.counts;
          }
      typed (returned {scope = scope} {l = l} {a = b} {v = v} hv) at told =
          let around_here : head_around raw scope ≡ Some head = ap (option_and_then (slice_get (defined_functions raw))) at.owner_is ∙ around in
          phrase_fits l scope _ _ _ refl (doings-Return scope.statements l v) (needs-Return scope.statements l v) (returns_fit raw d known scope at.names head result around_here stands b v told.kept.0 hv) at

      typed_all : {stand : Stand} {scope : Scope} {xs : List RawStatement} {ps : Phrases} {ys : List Statement} {after : Scope} → AreTreed raw stand scope xs ps ys after → Place scope → AreTold raw p scope.variables ps
          → Fits scope.variables ps (body_doings ys) (body_needs ys) after
      typed_all (none {scope = scope}) at told = record { fit = refl; met = refl; place_after = at; counts = omega arith }
      typed_all (more {scope = scope} {middle = middle} {ps = ps} {qs = qs} h t) at told =
          let a = typed h at (told_first raw p scope.variables ps qs told) in
          then_fits a (typed_all t a.place_after (told_rest raw p scope.variables middle.variables ps qs a.counts told))

      typed_part : {stand : Stand} {scope : Scope} {x : Option RawStatement} {ps : Phrases} {y : Option Statement} {after : Scope} → PartTreed raw stand scope x ps y after → Place scope → AreTold raw p scope.variables ps
          → Fits scope.variables ps (part_doings y) (part_needs y) after
      typed_part (absent {scope = scope}) at told = record { fit = refl; met = refl; place_after = at; counts = omega arith }
      typed_part (present h) at told = typed h at told

      typed_arms : {t : IntType} {scope : Scope} {arms : List RawArm} {labels : List RawLabel} {ps : Phrases} {ys : List Arm} {after : Scope} → ArmsTreed raw t scope arms labels ps ys after → Place scope → AreTold raw p scope.variables ps
          → Fits scope.variables ps (arms_doings ys) (arms_needs ys) after
      typed_arms (no_arm {scope = scope}) at told = record { fit = refl; met = refl; place_after = at; counts = omega arith }
      typed_arms (arm {scope = scope} {middle = middle} {ps = ps} {qs = qs} same h t) at told =
          let a = typed_all h at (told_first raw p scope.variables ps qs told) in
          then_fits a (typed_arms t a.place_after (told_rest raw p scope.variables middle.variables ps qs a.counts told))

    pub all_typed : {stand : Stand} {scope : Scope} {xs : List RawStatement} {ps : Phrases} {ys : List Statement} {after : Scope} → AreTreed raw stand scope xs ps ys after → Place scope → AreTold raw p scope.variables ps
        → Fits scope.variables ps (body_doings ys) (body_needs ys) after
    all_typed h at told = typed_all h at told
