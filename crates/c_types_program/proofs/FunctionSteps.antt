-- What the walk does at the definition of a function, step by step.
use Rattle.std.proofs.Common.{◌≡◌, ℕ, ◌+◌, ◌<◌, List, [], ◌∷◌, ◌++◌, length, drop, get_or, map, true, false, Option, Some, None, append-nil, refl, sym, ap, subst, ◌∙◌}
use Rattle.c_tree.specs.declared.program.Function.{Function}
use Rattle.c_tree.specs.declared.raw.program.RawInit.TheVariants as init
use Rattle.c_tree.specs.declared.raw.program.RawItem.TheVariants.{Define}
use Rattle.c_tree.specs.declared.raw.program.RawHead.{RawHead}
use Rattle.c_tree.specs.declared.raw.program.RawParam.{RawParam}
use Rattle.c_tree.specs.declared.raw.program.RawProgram.{RawProgram}
use Rattle.c_tree.specs.declared.raw.statement.RawStatement.{RawStatement}
use Rattle.c_tree.specs.declared.statement.Statement.{Statement}
use Rattle.c_tree.specs.declared.types.CType.{CType}
use Rattle.c_language.specs.ConstantEvaluation.{both}
use Rattle.c_language.specs.DeclaredTypes.{type_with}
use Rattle.c_language.specs.Phrases.{InHead, InBlock, DeclaresFunction, EndsFunction, Declares, Phrases, phrase, joined_at, scoped, parameter_phrases, head_phrases, item_phrases}
use Rattle.c_language.specs.ProgramOf.{collected, ctype_with, ctype_if, treed, body_of, parameter_ids, variable_with, variables_in}
use Rattle.c_language.specs.Rules.{BreaksNone}
use Rattle.c_language.specs.Scopes.{Scope, Meaning, meaning_in, with_entry, with_function, with_named, with_parameters, parameter_of, entered, in_order, after_all}
use Rattle.c_language.specs.Words.{Bytes}
use Rattle.c_language.proofs.PhraseLists.{variables-append}
use Rattle.c_language.proofs.TreeScopes.{list_after}
use Rattle.c_types_base.specs.Tables.{scope_of, AreRight, IsAt}
use Rattle.c_types_base.proofs.ScopeLaws.{Extends, then_extends, front}
use Rattle.c_types_base.specs.Stretches.{Stretch, then_comes, of_parameter, of_parameters, of_function, of_item, inside_function}
use Rattle.c_types_base.proofs.TextSteps.{parameters_here, define_phrases, define_after, begins_at}
use Rattle.c_types_base.proofs.Stretching.{parameters_grow, statements_grow}
use Rattle.c_types_program.specs.declared.walk.Walk.{Walk}
use Rattle.c_types_trees.specs.KeptPhrases.{HasNoLengthIf, IsKeptHead}
use Rattle.c_types_trees.specs.FitPhrases.{AreFit, IsFit, AreFitInside}
use Rattle.c_types_program.specs.Statements.{Comes, FitAll, HaveTrees, PassesAll}
use Rattle.c_types_program.specs.Variables.{Grow}
use Rattle.c_types_program.specs.Items.{FitsStretch, PassesStretch, HasBody, HasFunction}
use Rattle.c_types_program.proofs.Growing.{grow_none, grow_then, fit_both}
use Rattle.c_types_program.proofs.Passing.{cut, cut_closes}
use Rattle.c_types_program.proofs.Progress.{Place, Along, left_as, next_fits, comes_on}
use Rattle.c_types_program.proofs.SimpleForms.{declares_fresh, declares_typed, declares_shaped}
use Rattle.c_types_program.proofs.Standing.{Stands, here, told, given, goes, came}

-- nothing is passed
pub stays_here : (w : Walk) → Comes w w (scope_of w.tables) []
stays_here w = record { arrives = record { scope_is = refl; text = refl; right = λ h. h }; grow = grow_none w.variables }

-- ---- a parameter

module _ (w : Walk) (p : RawParam) where
  abbrev raw_of : RawProgram
  raw_of = w.tables.raw.now

  abbrev begin : Scope
  begin = scope_of w.tables

  pub parameter_unnamed : p.name ≡ None → PassesStretch (of_parameter p) w w
  parameter_unnamed is = subst (λ o. Comes w w (with_named raw_of p o begin) (variables_in raw_of (parameter_phrases raw_of p o begin))) (sym is) (stays_here w)

  module _ (name : Bytes) (is : p.name ≡ Some name) where
    declares : FitsStretch (of_parameter p) w → BreaksNone raw_of begin (Declares InHead (parameter_of p name) init.None)
    declares h = (subst (λ o. AreFit raw_of (parameter_phrases raw_of p o begin)) is h).0.kept

    pub parameter_fresh : FitsStretch (of_parameter p) w → meaning_in begin name ≡ None
    parameter_fresh h = declares_fresh raw_of begin InHead (parameter_of p name) init.None (declares h)

    pub parameter_typed : FitsStretch (of_parameter p) w → type_with raw_of 0 p.shape ≡ None → ⊥
    parameter_typed h = declares_typed raw_of begin InHead (parameter_of p name) init.None (declares h)

    pub parameter_shaped : FitsStretch (of_parameter p) w → ctype_with raw_of 0 p.shape ≡ None → ⊥
    parameter_shaped h = declares_shaped raw_of begin InHead (parameter_of p name) init.None (declares h)

    pub parameter_passes : (v : Walk)
        → Comes w v (with_entry name (Meaning.Variable begin.variables (type_with raw_of 0 p.shape)) (record begin { variables = begin.variables + 1 }))
        (variable_with raw_of p.line begin.owner false true name p.shape 0 ∷ [])
        → PassesStretch (of_parameter p) w v
    parameter_passes v h = subst (λ o. Comes w v (with_named raw_of p o begin) (variables_in raw_of (parameter_phrases raw_of p o begin))) (sym is) h

-- ---- the parameters and the body

module _ (w : Walk) (right : AreRight w.tables) (head : RawHead) (body : List RawStatement) where
  abbrev text : RawProgram
  text = w.tables.raw.now

  abbrev outside : Scope
  outside = scope_of w.tables

  abbrev start : Scope
  start = inside_function outside

  abbrev past : Scope
  past = with_parameters text head.params start

  parts_fit : FitsStretch (of_function head body) w → AreFit text (head_phrases text head.params start) × AreFit text (joined_at InBlock (in_order (map (scoped text) body) past))
  parts_fit h = fit_both text (head_phrases text head.params start) (joined_at InBlock (in_order (map (scoped text) body) past)) h

  module _ (u : Walk) (enters : IsAt w.tables u.tables start) where
    abbrev inside : Stands text start u.tables
    inside = goes (λ r x. inside_function x) (here w.tables right) enters

    pub function_parameters : FitsStretch (of_function head body) w → FitsStretch (of_parameters head.params) u
    function_parameters h = given (λ r x. AreFit r (head_phrases r head.params x)) inside (parts_fit h).0

    module _ (v : Walk) (through : PassesStretch (of_parameters head.params) u v) where
      abbrev behind : Stands text past v.tables
      behind = goes (λ r x. with_parameters r head.params x) inside through.arrives

      pub body_right : AreRight v.tables
      body_right = behind.right

      pub body_fits : FitsStretch (of_function head body) w → FitAll v body
      body_fits h = given (λ r x. AreFitInside r body x) behind (record { stand = InBlock; inside = tt; fit = (parts_fit h).1 })

      pub function_has : (xs : List Statement) → HaveTrees v body xs → HasBody w head body xs
      function_has xs h = told (λ r x. collected (in_order (map (treed r) body) x) ≡ Some xs) behind h

      ends_at : after_all (map (treed text) body) past ≡ after_all (map (scoped text) body) past
      ends_at = list_after text body past

      grows : Extends start (after_all (map (scoped text) body) past)
      grows = then_extends start past (after_all (map (scoped text) body) past) (parameters_grow text head.params start) (statements_grow text InBlock body past)

      pub function_passes : (y z : Walk) (names outer : ℕ) (owner : Option ℕ)
          → names ≡ length outside.names → outer ≡ outside.outer → owner ≡ outside.owner
          → u.variables ≡ w.variables → PassesAll v y body
          → IsAt y.tables z.tables (cut names outer owner (scope_of y.tables)) → z.variables ≡ y.variables
          → PassesStretch (of_function head body) w z
      function_passes y z names outer owner n o f same passes closes last =
          let along = passes InBlock tt in
          let after = after_all (map (scoped text) body) past in
          let at_end = goes (λ r x. after_all (map (treed r) body) x) behind along.arrives in
          let end = goes {t = y.tables} {u = z.tables} (λ r x. cut names outer owner x) at_end closes in
          record {
            arrives = came end (ap (λ (x : Scope). cut names outer owner x) ends_at ∙ cut_closes outside after names outer owner n o f (front start after grows));
            grow =
                subst (Grow w.variables z.variables) (sym (variables-append text (head_phrases text head.params start) (joined_at InBlock (in_order (map (scoped text) body) past))))
                (subst (λ b. Grow w.variables b (variables_in text (head_phrases text head.params start) ++ variables_in text (joined_at InBlock (in_order (map (scoped text) body) past)))) (sym last)
                (grow_then
                (subst (λ a. Grow a v.variables (variables_in text (head_phrases text head.params start))) same (told (λ r x. Grow u.variables v.variables (variables_in r (head_phrases r head.params x))) inside through.grow))
                (told (λ r x. Grow v.variables y.variables (variables_in r (joined_at InBlock (in_order (map (scoped r) body) x)))) behind along.grow)));
          }

-- ---- a definition

module _ (w : Walk) (right : AreRight w.tables) (line : ℕ) (head : RawHead) (body : List RawStatement) where
  abbrev source : RawProgram
  source = w.tables.raw.now

  abbrev before : Scope
  before = scope_of w.tables

  abbrev declared : Scope
  declared = with_function head.name before

  abbrev inner : Phrases
  inner = (of_function head body source).gives declared

  abbrev end_phrase : Phrases
  end_phrase = phrase line before (EndsFunction head body) ∷ []

  whole_is : phrase line before (DeclaresFunction head true) ∷ (inner ++ end_phrase) ≡ item_phrases source (Define line head body) before
  whole_is = define_phrases source line head body before

  module _ (h : FitsStretch (of_item (Define line head body)) w) where
    opened_fit : IsFit source before (DeclaresFunction head true) × AreFit source (inner ++ end_phrase)
    opened_fit = subst (AreFit source) (sym whole_is) h

    pub definition_plain : HasNoLengthIf head.result
    definition_plain = opened_fit.0.formed

    pub definition_head : IsKeptHead w.tables.defined.raw.now head
    definition_head = record { scope = before; is_definition = true; kept = subst (λ r. BreaksNone r before (DeclaresFunction head true)) (sym right.text) opened_fit.0.kept }

    module _ (u : Walk) (name : Bytes) (same : name ≡ head.name) (at : IsAt w.tables u.tables (with_function name before)) where
      abbrev named : Stands source declared u.tables
      named = goes (λ r x. with_function head.name x) (here w.tables right) (subst (λ n. IsAt w.tables u.tables (with_function n before)) same at)

      pub definition_inside : FitsStretch (of_function head body) u
      definition_inside = given (λ r x. AreFit r ((of_function head body r).gives x)) named (fit_both source inner end_phrase opened_fit.1).0

      pub definition_has : (f : Function) (result : Option CType) (xs : List Statement)
          → ctype_if w.tables.defined.raw.now head.result ≡ Some result → HasBody u head body xs
          → f ≡ record { name = head.name; result = result; params = parameter_ids head.params before.variables; body = xs; is_static = head.is_static; line = line }
          → HasFunction w line head body f
      definition_has f result xs shape has is =
          let t = subst (λ r. ctype_if r head.result ≡ Some result) right.text shape in
          let b = told (λ r x. body_of r body (with_parameters r head.params (inside_function x)) ≡ Some xs) named has in
          let made : body_of source body (entered source head before) ≡ Some xs = ap (λ x. body_of source body (with_parameters source head.params x)) (sym (begins_at head before)) ∙ b in
          joined (ctype_if source head.result) (body_of source body (entered source head before)) t made ∙ ap Some (sym is)
        where
          joined : (o : Option (Option CType)) (g : Option (List Statement)) → o ≡ Some result → g ≡ Some xs
              → both {C = Function} (λ (r : Option CType) (statements : List Statement). record {
                name = head.name;
                result = r;
                params = parameter_ids head.params before.variables;
                body = statements;
                is_static = head.is_static;
                line = line;
              }) o g ≡ Some (record { name = head.name; result = result; params = parameter_ids head.params before.variables; body = xs; is_static = head.is_static; line = line })
          joined o g t b = rw (t, b) refl

      pub definition_passes : (v : Walk) → u.variables ≡ w.variables → PassesStretch (of_function head body) u v → PassesStretch (of_item (Define line head body)) w v
      definition_passes v same_made passes =
          let end = goes (λ r x. (of_function head body r).after x) named passes.arrives in
          let grown = told (λ r x. Grow u.variables v.variables (variables_in r ((of_function head body r).gives x))) named passes.grow in
          record {
            arrives = came end (define_after source line head body before);
            grow =
                subst (λ ps. Grow w.variables v.variables (variables_in source ps)) whole_is
                (subst (Grow w.variables v.variables) (sym (variables-append source inner end_phrase ∙ append-nil (variables_in source inner)))
                (subst (λ a. Grow a v.variables (variables_in source inner)) same_made grown));
          }

-- ---- the turns of the loop along parameters

module _ {whole : Stretch} {raw : RawProgram} {scope : Scope} {old new : Walk} (ps : List RawParam) (i : ℕ) (h : Along whole (of_parameters (drop i ps)) raw scope old new) where
  module _ (p : RawParam) (within : i < length ps) (is : p ≡ get_or ps i p) where
    next_parameter : Place whole (then_comes (of_parameter p) (of_parameters (drop (i + 1) ps))) raw scope h.now old new
    next_parameter = left_as (of_parameters (drop i ps)) (then_comes (of_parameter p) (of_parameters (drop (i + 1) ps))) (parameters_here ps i p raw within is) h.at

    pub parameter_fits : FitsStretch (of_parameter p) new
    parameter_fits = next_fits (of_parameter p) (of_parameters (drop (i + 1) ps)) next_parameter

    pub parameters_turn : (later : Walk) → PassesStretch (of_parameter p) new later → Along whole (of_parameters (drop (i + 1) ps)) raw scope old later
    parameters_turn later passes =
        record { now = (of_parameter p raw).after h.now; at = comes_on (of_parameter p) (of_parameters (drop (i + 1) ps)) next_parameter later passes }

-- a function with its own name and numbers of parameters
pub function_record : (head : RawHead) (line : ℕ) (name : Bytes) (result : Option CType) (params ids : List ℕ) (body : List Statement) → name ≡ head.name → params ≡ ids
    → ◌≡◌ {A = Function} (record { name = name; result = result; params = params; body = body; is_static = head.is_static; line = line })
    (record { name = head.name; result = result; params = ids; body = body; is_static = head.is_static; line = line })
function_record head line name result params ids body is also =
    ap (λ (n : Bytes). record { name = n; result = result; params = params; body = body; is_static = head.is_static; line = line }) is
    ∙ ap (λ (ps : List ℕ). record { name = head.name; result = result; params = ps; body = body; is_static = head.is_static; line = line }) also
