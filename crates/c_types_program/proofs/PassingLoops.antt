-- What the walk does at a for and at a switch, step by step.
use Rattle.std.proofs.Common.{◌≡◌, ℕ, List, ◌∷◌, ◌++◌, map, length, Option, Some, None, option_map, option_and_then, refl, sym, ap, subst, ◌∙◌}
use Rattle.c_arith.specs.declared.int_type.IntType.{IntType}
use Rattle.c_tree.specs.declared.expr.Expr.{Expr}
use Rattle.c_tree.specs.declared.statement.Label.{Label}
use Rattle.c_tree.specs.declared.statement.Arm.{Arm}
use Rattle.c_tree.specs.declared.statement.Statement.{Statement}
use Rattle.c_tree.specs.declared.statement.Statement.TheVariants as made
use Rattle.c_tree.specs.declared.raw.expr.RawExpr.{RawExpr}
use Rattle.c_tree.specs.declared.raw.program.RawProgram.{RawProgram}
use Rattle.c_tree.specs.declared.raw.statement.RawArm.{RawArm}
use Rattle.c_tree.specs.declared.raw.statement.RawStatement.{RawStatement}
use Rattle.c_tree.specs.declared.raw.statement.RawStatement.TheOpen.{RawStatement-F}
use Rattle.c_tree.specs.declared.raw.statement.RawStatement.TheVariants as s
use Rattle.c_language.specs.ConstantEvaluation.{both}
use Rattle.c_language.specs.Rules.{BreaksNone}
use Rattle.c_language.specs.Scopes.{Scope, Scoped, opened, numbered, in_order, after_all, after_block, after_part, part_gives, scope_of_test, scope_of_body}
use Rattle.c_language.specs.Phrases.{Stand, InFor, InBlock, InArm, Tests, Switches, Phrases, phrase, ArmText, joined_at, block_phrases, at_stand, labels_of, phrases_of_arms, scoped_step, scoped, scoped_of_arm, IsInside}
use Rattle.c_language.specs.ProgramOf.{collected, label_tree, arm_tree, expr_of, switch_type, ArmTree, for_tree, at_type, treed, variables_in, treed_arm}
use Rattle.c_language.proofs.TreedForms.{treed-For, treed-Switch}
use Rattle.c_language.proofs.ScopedForms.{scoped-Switch}
use Rattle.c_language.proofs.PhraseLists.{variables-append}
use Rattle.c_language.proofs.TreeScopes.{part_after}
use Rattle.c_types_base.specs.Tables.{scope_of, AreRight, IsAt}
use Rattle.c_types_base.proofs.ScopeLaws.{Extends, then_extends, front}
use Rattle.c_types_program.specs.declared.walk.Walk.{Walk}
use Rattle.c_types_trees.specs.KeptPhrases.{IsKeptSwitch}
use Rattle.c_types_trees.specs.FitPhrases.{AreFit, IsFitPart}
use Rattle.c_types_program.specs.Statements.{Comes, Fits, HasTree, Passes, FitAll, HaveTrees, PassesAll, FitsBlock, HasBlock, PassesBlock, FitsPart, HasPart, PassesPart, AreLabels, arm_text, arm_texts, HasArm, PassesArm, HaveArms, PassesArms}
use Rattle.c_types_program.specs.Variables.{Grow}
use Rattle.c_types_program.proofs.Growing.{grow_then, fit_both}
use Rattle.c_types_program.proofs.Passing.{part_extends, body_extends, arms_extend, cut, cut_closes, fits_as, tree_as, passes_as, StandsAt, block_given, block_told, block_goes, block_grows, test_given, test_told, part_given, part_told, part_goes, part_grows}
use Rattle.c_types_program.proofs.Standing.{here, told, given, goes, came}
use Rattle.c_types_program.proofs.StatementForms.{scoped-For, scoped_part, treed-arm, scoped-arm}

-- ---- a for

part_is : (raw : RawProgram) (part : Option RawStatement) → scoped_part raw part ≡ option_map (scoped raw) part
part_is raw None = refl
part_is raw (Some one) = refl

module _ (w : Walk) (right : AreRight w.tables) (l : ℕ) (i : Option RawStatement) (e : RawExpr) (step : Option RawStatement) (b : List RawStatement) where
  abbrev raw : RawProgram
  raw = w.tables.raw.now

  abbrev begin : Scope
  begin = scope_of w.tables

  abbrev at_init : Scope
  at_init = opened (numbered begin)

  abbrev tree_of : Option RawStatement → Option (Scoped (Option Statement))
  tree_of = option_map (treed raw)

  abbrev text_of : Option RawStatement → Option (Scoped (Stand → Phrases))
  text_of = option_map (scoped raw)

  abbrev at_test : Scope
  at_test = scope_of_test (tree_of i) begin

  abbrev at_body : Scope
  at_body = scope_of_body (tree_of i) (tree_of step) begin

  abbrev after_body : Scope
  after_body = after_block (map (treed raw) b) at_body

  for_text : scoped raw (s.For l i e step b) ≡ scoped_step raw (RawStatement-F.For l (text_of i) e (text_of step) (map (scoped raw) b))
  for_text =
      scoped-For raw l i e step b
      ∙ (ap (λ x. scoped_step raw (RawStatement-F.For l x e (scoped_part raw step) (map (scoped raw) b))) (part_is raw i)
      ∙ ap (λ x. scoped_step raw (RawStatement-F.For l (text_of i) e x (map (scoped raw) b))) (part_is raw step))

  same_test : at_test ≡ scope_of_test (text_of i) begin
  same_test = part_after raw i at_init

  same_body : at_body ≡ scope_of_body (text_of i) (text_of step) begin
  same_body = ap (after_part (tree_of step)) same_test ∙ part_after raw step (scope_of_test (text_of i) begin)

  abbrev phrases_at : Scope → Scope → Phrases
  phrases_at x y = phrase l x (Tests e) ∷ (at_stand InBlock (part_gives (text_of step) x) ++ block_phrases (map (scoped raw) b) y)

  abbrev init_phrases : Phrases
  init_phrases = at_stand InFor (part_gives (text_of i) at_init)

  same_phrases : phrases_at (scope_of_test (text_of i) begin) (scope_of_body (text_of i) (text_of step) begin) ≡ phrases_at at_test at_body
  same_phrases = ap (λ x. phrases_at x (scope_of_body (text_of i) (text_of step) begin)) (sym same_test) ∙ ap (phrases_at at_test) (sym same_body)

  for_parts : Fits w (s.For l i e step b) → AreFit raw init_phrases × AreFit raw (phrases_at at_test at_body)
  for_parts h =
      let parts = fit_both raw init_phrases (phrases_at (scope_of_test (text_of i) begin) (scope_of_body (text_of i) (text_of step) begin)) (fits_as w (s.For l i e step b) _ for_text h) in
      (parts.0, subst (AreFit raw) same_phrases parts.1)

  fit_part : (stand : Stand) (part : Option RawStatement) (scope : Scope) → IsInside stand → AreFit raw (at_stand stand (part_gives (text_of part) scope)) → IsFitPart raw part scope
  fit_part stand None scope inside h = tt
  fit_part stand (Some one) scope inside h = record { stand = stand; inside = inside; fit = h }

  module _ (u v : Walk) (number : IsAt w.tables u.tables (numbered begin)) (opens : IsAt u.tables v.tables (opened (scope_of u.tables))) where
    abbrev ready : StandsAt raw at_init v
    ready = goes {t = u.tables} {u = v.tables} (λ r x. opened x) (goes {t = w.tables} {u = u.tables} (λ r x. numbered x) (here w.tables right) number) opens

    pub for_init : Fits w (s.For l i e step b) → FitsPart v i
    for_init h = part_given v ready i (fit_part InFor i at_init tt (for_parts h).0)

    module _ (x : Walk) (first : PassesPart v x i) where
      abbrev testing : StandsAt raw at_test x
      testing = part_goes v ready x i first

      pub for_test : Fits w (s.For l i e step b) → BreaksNone x.tables.raw.now (scope_of x.tables) (Tests e)
      for_test h = test_given x testing e (for_parts h).1.0.kept

      pub for_right : AreRight x.tables
      for_right = testing.right

      step_parts : Fits w (s.For l i e step b) → AreFit raw (at_stand InBlock (part_gives (text_of step) at_test)) × AreFit raw (block_phrases (map (scoped raw) b) at_body)
      step_parts h = fit_both raw (at_stand InBlock (part_gives (text_of step) at_test)) (block_phrases (map (scoped raw) b) at_body) (for_parts h).1.1

      pub for_step : Fits w (s.For l i e step b) → FitsPart x step
      for_step h = part_given x testing step (fit_part InBlock step at_test tt (step_parts h).0)

      module _ (y : Walk) (second : PassesPart x y step) where
        abbrev entering : StandsAt raw at_body y
        entering = part_goes x testing y step second

        pub for_body_right : AreRight y.tables
        for_body_right = entering.right

        pub for_body : Fits w (s.For l i e step b) → FitsBlock y b
        for_body h = block_given y entering b (step_parts h).1

        for_joined : (id : ℕ) (o : Option (Option Statement)) (t : Option Expr) (p : Option (Option Statement)) (q : Option (List Statement)) (a : Option Statement) (c : Expr) (d : Option Statement) (z : List Statement)
            → o ≡ Some a → t ≡ Some c → p ≡ Some d → q ≡ Some z → for_tree id l o t p q ≡ Some (made.For id l a c d z)
        for_joined id o t p q a c d z f g h k = rw (f, g, h, k) refl

        pub for_has : (id : ℕ) (a : Option Statement) (c : Expr) (d : Option Statement) (z : List Statement) → id ≡ w.tables.statements
            → HasPart v i a → expr_of x.tables.raw.now (scope_of x.tables) e ≡ Some c → HasPart x step d → HasBlock y b z → HasTree w (s.For l i e step b) (made.For id l a c d z)
        for_has id a c d z n f g h k =
            tree_as w (s.For l i e step b) _ (made.For id l a c d z) (treed-For raw l i e step b)
            (for_joined w.tables.statements _ _ _ _ a c d z (part_told v ready i a f) (test_told x testing e c g) (part_told x testing step d h) (block_told y entering b z k)
            ∙ ap (λ m. Some (made.For m l a c d z)) (sym n))

        extends : Extends at_init after_body
        extends =
            then_extends at_init at_test after_body (part_extends raw i at_init)
            (then_extends at_test at_body after_body (part_extends raw step at_test) (body_extends raw b at_body))

        pub for_passes : (z last : Walk) (names outer : ℕ) (owner : Option ℕ)
            → names ≡ length begin.names → outer ≡ begin.outer → owner ≡ begin.owner
            → v.variables ≡ w.variables → PassesBlock y z b → IsAt z.tables last.tables (cut names outer owner (scope_of z.tables)) → last.variables ≡ z.variables
            → Passes w last (s.For l i e step b)
        for_passes z last names outer owner n o f same third closes end =
            let closing = goes {t = z.tables} {u = last.tables} (λ r k. cut names outer owner k) (block_goes y entering z b third) closes in
            let grown = grow_then (part_grows v ready x i InFor tt first) (grow_then (part_grows x testing y step InBlock tt second) (block_grows y entering z b third)) in
            let all = init_phrases ++ phrases_at at_test at_body in
            let found =
            variables-append raw init_phrases (phrases_at at_test at_body)
            ∙ ap (λ vs. variables_in raw init_phrases ++ vs) (variables-append raw (at_stand InBlock (part_gives (text_of step) at_test)) (block_phrases (map (scoped raw) b) at_body)) in
            passes_as w last (s.For l i e step b) _ _ (treed-For raw l i e step b) for_text (λ stand inside. record {
              arrives = came closing (cut_closes begin after_body names outer owner n o f (front at_init after_body extends));
              grow =
                  subst (λ k. Grow k last.variables (variables_in raw (init_phrases ++ phrases_at (scope_of_test (text_of i) begin) (scope_of_body (text_of i) (text_of step) begin)))) same
                  (subst (λ k. Grow v.variables k (variables_in raw (init_phrases ++ phrases_at (scope_of_test (text_of i) begin) (scope_of_body (text_of i) (text_of step) begin)))) (sym end)
                  (subst (λ ps. Grow v.variables z.variables (variables_in raw (init_phrases ++ ps))) (sym same_phrases)
                  (subst (Grow v.variables z.variables) (sym found) grown)));
            })

-- ---- a switch

module _ (w : Walk) (right : AreRight w.tables) (l : ℕ) (e : RawExpr) (arms : List RawArm) where
  abbrev raw_of : RawProgram
  raw_of = w.tables.raw.now

  abbrev start : Scope
  start = scope_of w.tables

  abbrev at_arms : Scope
  at_arms = opened (numbered start)

  abbrev texts : List ArmText
  texts = in_order (map (scoped_of_arm raw_of) arms) at_arms

  switch_phrases : Fits w (s.Switch l e arms) → AreFit raw_of (phrase l start (Switches e (labels_of texts)) ∷ phrases_of_arms texts)
  switch_phrases h = fits_as w (s.Switch l e arms) _ (scoped-Switch raw_of l e arms) h

  pub switch_test : Fits w (s.Switch l e arms) → IsKeptSwitch raw_of start e
  switch_test h = record { labels = labels_of texts; kept = (switch_phrases h).0.kept }

  module _ (u v : Walk) (number : IsAt w.tables u.tables (numbered start)) (opens : IsAt u.tables v.tables (opened (scope_of u.tables))) where
    abbrev counted : StandsAt raw_of (numbered start) u
    counted = goes {t = w.tables} {u = u.tables} (λ r x. numbered x) (here w.tables right) number

    abbrev inside_arms : StandsAt raw_of at_arms v
    inside_arms = goes {t = u.tables} {u = v.tables} (λ r x. opened x) counted opens

    pub switch_right : AreRight v.tables
    switch_right = inside_arms.right

    pub switch_arms : Fits w (s.Switch l e arms) → AreFit v.tables.raw.now (phrases_of_arms (arm_texts v arms))
    switch_arms h = given (λ r x. AreFit r (phrases_of_arms (in_order (map (scoped_of_arm r) arms) x))) inside_arms (switch_phrases h).1

    pub switch_labels : Fits w (s.Switch l e arms) → AreLabels v.tables.raw.now (labels_of (arm_texts v arms))
    switch_labels h =
        given (λ r x. AreLabels r (labels_of (in_order (map (scoped_of_arm r) arms) x))) inside_arms
        (λ one c. record { scope = start; test = e; labels = labels_of texts; kept = (switch_phrases h).0.kept; among = c })

    switch_joined : (o : Option Expr) (t : Option IntType) (q : IntType → Option (List Arm)) (a : Expr) (c : IntType) (z : List Arm) → o ≡ Some a → t ≡ Some c → q c ≡ Some z
        → option_and_then (λ (x : Expr). option_and_then (λ (k : IntType). option_map (made.Switch w.tables.statements l x) (q k)) t) o ≡ Some (made.Switch w.tables.statements l a z)
    switch_joined o t q a c z f g h = rw (f, g, h) refl

    pub switch_has : (id : ℕ) (a : Expr) (c : IntType) (z : List Arm) → id ≡ w.tables.statements
        → expr_of raw_of start e ≡ Some a → switch_type raw_of start e ≡ Some c → HaveArms v c arms z → HasTree w (s.Switch l e arms) (made.Switch id l a z)
    switch_has id a c z n f g h =
        tree_as w (s.Switch l e arms) _ (made.Switch id l a z) (treed-Switch raw_of l e arms)
        (switch_joined (expr_of raw_of start e) (switch_type raw_of start e) (λ t. at_type t (in_order (map (treed_arm raw_of) arms) at_arms)) a c z f g
        (told (λ r x. at_type c (in_order (map (treed_arm r) arms) x) ≡ Some z) inside_arms h)
        ∙ ap (λ m. Some (made.Switch m l a z)) (sym n))

    pub switch_passes : (z last : Walk) (names outer : ℕ) (owner : Option ℕ)
        → names ≡ length (scope_of u.tables).names → outer ≡ u.tables.outer → owner ≡ u.tables.owner
        → v.variables ≡ w.variables → PassesArms v z arms → IsAt z.tables last.tables (cut names outer owner (scope_of z.tables)) → last.variables ≡ z.variables
        → Passes w last (s.Switch l e arms)
    switch_passes z last names outer owner n o f same through closes end =
        let after = after_all (map (treed_arm raw_of) arms) at_arms in
        let closing =
        goes {t = z.tables} {u = last.tables} (λ r k. cut names outer owner k)
        (goes {t = v.tables} {u = z.tables} (λ r x. after_all (map (treed_arm r) arms) x) inside_arms through.arrives) closes in
        passes_as w last (s.Switch l e arms) _ _ (treed-Switch raw_of l e arms) (scoped-Switch raw_of l e arms) (λ stand inside. record {
          arrives =
              came closing (cut_closes (numbered start) after names outer owner
              (n ∙ ap (λ (x : Scope). length x.names) counted.place) (o ∙ ap (λ (x : Scope). x.outer) counted.place) (f ∙ ap (λ (x : Scope). x.owner) counted.place)
              (front at_arms after (arms_extend raw_of arms at_arms)));
          grow =
              subst (λ k. Grow k last.variables (variables_in raw_of (phrases_of_arms texts))) same
              (subst (λ k. Grow v.variables k (variables_in raw_of (phrases_of_arms texts))) (sym end)
              (told (λ r x. Grow v.variables z.variables (variables_in r (phrases_of_arms (in_order (map (scoped_of_arm r) arms) x)))) inside_arms through.grow));
        })

-- ---- an arm

module _ (w : Walk) (a : RawArm) where
  abbrev here_raw : RawProgram
  here_raw = w.tables.raw.now

  abbrev here_scope : Scope
  here_scope = scope_of w.tables

  text_is : arm_text w a ≡ record { labels = a.labels; phrases = joined_at InArm (in_order (map (scoped here_raw) a.body) here_scope) }
  text_is = ap (λ (x : Scoped ArmText). x.gives here_scope) (scoped-arm here_raw a.labels a.body)

  pub arm_labels : AreLabels here_raw (arm_text w a).labels → AreLabels here_raw a.labels
  arm_labels h = subst (λ (x : ArmText). AreLabels here_raw x.labels) text_is h

  pub arm_body : AreFit here_raw (arm_text w a).phrases → FitAll w a.body
  arm_body h = record { stand = InArm; inside = tt; fit = subst (λ (x : ArmText). AreFit here_raw x.phrases) text_is h }

  pub arm_has : (t : IntType) (ls : List Label) (xs : List Statement) → collected (map (label_tree here_raw here_scope t) a.labels) ≡ Some ls → HaveTrees w a.body xs
      → HasArm w t a (arm_tree ls xs)
  arm_has t ls xs h k =
      ap (λ (x : Scoped ArmTree). x.gives here_scope t) (treed-arm here_raw a.labels a.body)
      ∙ (ap (λ o. both arm_tree o (collected (in_order (map (treed here_raw) a.body) here_scope))) h ∙ ap (option_map (arm_tree ls)) k)

  pub arm_passes : (v : Walk) → PassesAll w v a.body → PassesArm w v a
  arm_passes v h =
      subst (λ (x : Scoped ArmTree). Comes w v (x.after here_scope) (variables_in here_raw (arm_text w a).phrases)) (sym (treed-arm here_raw a.labels a.body))
      (subst (λ (x : ArmText). Comes w v (after_all (map (treed here_raw) a.body) here_scope) (variables_in here_raw x.phrases)) (sym text_is) (h InArm tt))
