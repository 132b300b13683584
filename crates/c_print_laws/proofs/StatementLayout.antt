-- The layout of a statement of a program is that of the text's statement.
use Rattle.std.proofs.Common.{◌≡◌, ℕ, arith, List, [], ◌∷◌, ◌++◌, Option, Some, None, codes, refl, sym, ap, ap₂, subst, ◌∙◌, map}
use Rattle.std.specs.Prelude.{Contains, option_map, option_and_then, ℤ}
use Rattle.std.proofs.lemmas.List.Elements.{Contains-append_left, Contains-append_right}
use Rattle.c_language.proofs.Operands.{AreClean, kept_clean}
use Rattle.c_arith.specs.declared.int_type.IntType.{IntType}
use Rattle.c_arith.specs.IntType.{convert}
use Rattle.c_tree.specs.declared.expr.Expr.{Expr}
use Rattle.c_tree.specs.declared.program.Program.{Program}
use Rattle.c_tree.specs.declared.statement.Target.{Target}
use Rattle.c_tree.specs.declared.statement.Target.TheVariants as to_place
use Rattle.c_tree.specs.declared.statement.Label.{Label}
use Rattle.c_tree.specs.declared.statement.Label.TheVariants as arm_label
use Rattle.c_tree.specs.declared.statement.Arm.{Arm, fold-roll-Arm}
use Rattle.c_tree.specs.declared.statement.Statement.{Statement}
use Rattle.c_tree.specs.declared.statement.Statement.TheVariants as s
use Rattle.c_tree.specs.declared.raw.expr.RawExpr.{RawExpr}
use Rattle.c_tree.specs.declared.raw.expr.RawVar.{RawVar}
use Rattle.c_tree.specs.declared.raw.program.RawInit.{RawInit}
use Rattle.c_tree.specs.declared.raw.program.RawInit.TheVariants as init
use Rattle.c_tree.specs.declared.raw.program.RawProgram.{RawProgram}
use Rattle.c_tree.specs.declared.raw.statement.RawTarget.{RawTarget}
use Rattle.c_tree.specs.declared.raw.statement.RawTarget.TheVariants as target
use Rattle.c_tree.specs.declared.raw.statement.RawLabel.{RawLabel}
use Rattle.c_tree.specs.declared.raw.statement.RawLabel.TheVariants as label
use Rattle.c_tree.specs.declared.raw.statement.RawStatement.{RawStatement, roll-RawStatement, map-RawStatement, fold-roll-RawStatement}
use Rattle.c_tree.specs.declared.raw.statement.RawStatement.TheOpen.{RawStatement-F, RawArm-F}
use Rattle.c_tree.specs.declared.raw.statement.RawArm.{RawArm, roll-RawArm, map-RawArm, fold-roll-RawArm}
use Rattle.c_tree.proofs.RawTrees.{StatementParts, statement_layer, ArmParts, arm_layer, of_every_statement}
use Rattle.c_language.specs.Words.{Bytes, assign_sign}
use Rattle.c_language.specs.Layout.{line, bump_words, return_words, Laid, plain, label_words, label_lines, target_words, laid_if, laid_while, laid_do, laid_for, laid_switch, laid_block, laid_case, statement_step, arm_step, laid, arm_laid}
use Rattle.c_language.specs.ConstantEvaluation.{both, constant, value_of_constant}
use Rattle.c_language.specs.declared.constant.Constant.{Constant}
use Rattle.c_language.specs.Rules.{Breaks}
use Rattle.c_language.specs.Uses.{init_exprs, target_exprs, arg_exprs, counts, if_given, expressions}
use Rattle.c_language.specs.Scopes.{Scope, Scoped, with_variable, with_target, opened, numbered, begun, in_order, after_all, after_block, part_gives, after_part, scope_of_test, scope_of_body}
use Rattle.c_language.specs.Phrases.{Stand, InBlock, InArm, InFor, Part, Begins, Assigns, Bumps, Calls, Allocates, Tests, Switches, Returns, Phrases, phrase, declaration, target_phrases, joined_at, block_phrases, at_stand, ArmText, phrases_of_arms, labels_of, scoped_step, scoped_arm, scoped, scoped_of_arm}
use Rattle.c_language.specs.ProgramOf.{expr_of, init_of, declaration_id, target_tree, label_tree, arm_tree, ArmTree, arm_tree_step, block_tree, at_type, switch_type, part_tree, for_tree, treed_step, treed, collected, optional, treed_arm}
use Rattle.c_language.proofs.LayoutLemmas.{laid-Declare, laid-Assign, laid-Bump, laid-Return, laid-If, laid-While, laid-Do, laid-For, laid-Switch, laid-Block}
use Rattle.c_text_layout.specs.RawLayout.{raw_target_words, raw_return_words, raw_label_words, raw_label_lines, raw_statement_step, raw_arm_step, raw_laid}
use Rattle.c_text_layout.proofs.RawStatementLemmas.{raw_arm_laid}
use Rattle.c_text_layout.specs.SpacedWords.{spaced_words}
use Rattle.c_print_laws.proofs.Options.{collected_are}
use Rattle.c_language.proofs.TreeScopes.{block_after_same}
use Rattle.c_print_laws.proofs.Named.{IsNamed, Fits}
use Rattle.c_print_laws.proofs.ExprLayout.{expr_layout, constant_layout}
use Rattle.c_print_laws.proofs.Scoping.{target_count, statement_scoped, arm_scoped, after_block_count, mapped, after_part_same, after_part_count}
use Rattle.c_print_laws.proofs.Told.{AreTold, told_first, told_rest, told_later, is_declared}
use Rattle.c_print_laws.proofs.CallLayout.{optional_is, init_layout, heap_layout, call_layout}
use Rattle.c_language.proofs.Options.{none_there, some_same, map_there, then_there, both_there}
use Rattle.c_language.proofs.Lists.{no_list, head_is, tail_is}
use Rattle.c_language.specs.Options.{IsThere}

abbrev pub laid_labels : Bytes → (ℕ → Bytes) → ℕ → Bytes
laid_labels w labels n = line n w ++ labels n

module _ (raw : RawProgram) (p : Program) (named : IsNamed raw p) where
  -- the one expression of a phrase that breaks no rule
  only_kept : (scope : Scope) (part : Part) (a : RawExpr) → ((n : ℕ) → Breaks raw scope part n → ⊥) → Contains (expressions part) a → AreClean raw scope a
  only_kept scope part a kept c = kept_clean raw scope part kept a c

  pub begins_kept : (l : ℕ) (scope : Scope) (stand : Stand) (v : RawVar) (i : RawInit) → AreTold raw p scope.variables (declaration raw l scope stand v i) → (a : RawExpr) → Contains (init_exprs i) a → AreClean raw (with_variable raw v i scope) a
  begins_kept l scope stand v init.None told a c = absurd (omega (arith, c.1))
  begins_kept l scope stand v (init.One e) told a c = kept_clean raw (with_variable raw v (init.One e) scope) (Begins stand v (init.One e)) told.kept.1.0 a c
  begins_kept l scope stand v (init.Items es) told a c = kept_clean raw (with_variable raw v (init.Items es) scope) (Begins stand v (init.Items es)) told.kept.1.0 a c

  begun_fits : (i : RawInit) (scope : Scope) → Fits p scope → Fits p (begun i scope)
  begun_fits init.None scope fits = fits
  begun_fits (init.One a) scope fits = fits
  begun_fits (init.Items all) scope fits = fits

  -- what a part of a text gives, and what its tree is laid out as
  pub record IsLaidAt (scope : Scope) (a : Scoped (Stand → Phrases)) (b : Scoped (Option Statement)) (out : Laid) : Type 0 where
    pub fits : Fits p (a.after scope)
    pub lays : (t : Statement) → b.gives scope ≡ Some t → laid p t ≡ out

  abbrev LaysAs : Scoped (Stand → Phrases) → Scoped (Option Statement) → Laid → Type 0
  LaysAs a b out = (scope : Scope) (stand : Stand) → Fits p scope → AreTold raw p scope.variables (a.gives scope stand) → IsLaidAt scope a b out

  pub record IsArmLaidAt (scope : Scope) (a : Scoped ArmText) (b : Scoped ArmTree) (out : ℕ → Bytes) : Type 0 where
    pub fits : Fits p (a.after scope)
    pub lays : (t : IntType) (m : Arm) → b.gives scope t ≡ Some m → arm_laid p m ≡ out

  abbrev ArmLaysAs : Scoped ArmText → Scoped ArmTree → (ℕ → Bytes) → Type 0
  ArmLaysAs a b out = (scope : Scope) → Fits p scope → AreTold raw p scope.variables (a.gives scope).phrases → IsArmLaidAt scope a b out

  abbrev pub IsLaid : RawStatement → Type 0
  IsLaid x = LaysAs (scoped raw x) (treed raw x) (raw_laid x)

  abbrev pub IsArmLaid : RawArm → Type 0
  IsArmLaid x = ArmLaysAs (scoped_of_arm raw x) (treed_arm raw x) (raw_arm_laid x)

  abbrev Statements : Type 0
  Statements = List ((x : RawStatement) × IsLaid x)

  abbrev bare : Statements → List RawStatement
  bare = map (λ (x : (s : RawStatement) × IsLaid s). x.0)

  abbrev Arms : Type 0
  Arms = List ((x : RawArm) × IsArmLaid x)

  abbrev bare_arms : Arms → List RawArm
  bare_arms = map (λ (x : (s : RawArm) × IsArmLaid s). x.0)

  -- ---- lists of statements

  abbrev list_phrases : Statements → Scope → Stand → Phrases
  list_phrases xs scope stand = joined_at stand (in_order (map (scoped raw) (bare xs)) scope)

  all_fit : (xs : Statements) (scope : Scope) (stand : Stand) → Fits p scope → AreTold raw p scope.variables (list_phrases xs scope stand) → Fits p (after_all (map (scoped raw) (bare xs)) scope)
  all_fit [] scope stand fits h = fits
  all_fit (x ∷ xs) scope stand fits h =
      let next = (scoped raw x.0).after scope in
      let one = x.1 scope stand fits (told_first raw p scope.variables ((scoped raw x.0).gives scope stand) (list_phrases xs next stand) h) in
      all_fit xs next stand one.fits (told_rest raw p scope.variables next.variables ((scoped raw x.0).gives scope stand) (list_phrases xs next stand) ((statement_scoped raw x.0).counts scope stand) h)

  all_lay : (xs : Statements) (scope : Scope) (stand : Stand) → Fits p scope → AreTold raw p scope.variables (list_phrases xs scope stand)
      → (ts : List Statement) → in_order (map (treed raw) (bare xs)) scope ≡ map Some ts → map (laid p) ts ≡ map raw_laid (bare xs)
  all_lay [] scope stand fits told [] h = refl
  all_lay [] scope stand fits told (t ∷ ts) h = no_list (sym h)
  all_lay (x ∷ xs) scope stand fits told [] h = no_list h
  all_lay (x ∷ xs) scope stand fits told (t ∷ ts) h =
      let next = (scoped raw x.0).after scope in
      let one = x.1 scope stand fits (told_first raw p scope.variables ((scoped raw x.0).gives scope stand) (list_phrases xs next stand) told) in
      let later = told_rest raw p scope.variables next.variables ((scoped raw x.0).gives scope stand) (list_phrases xs next stand) ((statement_scoped raw x.0).counts scope stand) told in
      ap₂ (λ (y : Laid) (ys : List Laid). y ∷ ys) (one.lays t (head_is h))
      (all_lay xs next stand one.fits later ts (ap (in_order (map (treed raw) (bare xs))) (sym ((statement_scoped raw x.0).same scope)) ∙ tail_is h))

  block_lay : (xs : Statements) (scope : Scope) → Fits p scope → AreTold raw p scope.variables (block_phrases (map (scoped raw) (bare xs)) scope)
      → (ts : List Statement) → block_tree (map (treed raw) (bare xs)) scope ≡ Some ts → map (laid p) ts ≡ map raw_laid (bare xs)
  block_lay xs scope fits told ts h = all_lay xs (opened scope) InBlock fits told ts (collected_are _ ts h)

  -- ---- parts of a for

  abbrev Part_of : Type 0
  Part_of = Option ((x : RawStatement) × IsLaid x)

  abbrev bare_part : Part_of → Option RawStatement
  bare_part None = None
  bare_part (Some x) = Some x.0

  abbrev part_phrases : Part_of → Scope → Stand → Phrases
  part_phrases x scope stand = at_stand stand (part_gives (mapped raw (scoped raw) (bare_part x)) scope)

  part_fits : (x : Part_of) (scope : Scope) (stand : Stand) → Fits p scope → AreTold raw p scope.variables (part_phrases x scope stand) → Fits p (after_part (mapped raw (scoped raw) (bare_part x)) scope)
  part_fits None scope stand fits told = fits
  part_fits (Some x) scope stand fits told = (x.1 scope stand fits told).fits

  part_lays : (x : Part_of) (scope : Scope) (stand : Stand) → Fits p scope → AreTold raw p scope.variables (part_phrases x scope stand)
      → (t : Option Statement) → part_tree (mapped raw (treed raw) (bare_part x)) scope ≡ Some t → option_map (laid p) t ≡ mapped raw raw_laid (bare_part x)
  part_lays None scope stand fits told t h = ap (option_map (laid p)) (sym (some_same h))
  part_lays (Some x) scope stand fits told None h = none_there (sym (optional_is (Some ((treed raw x.0).gives scope)) None h))
  part_lays (Some x) scope stand fits told (Some t) h =
      ap Some ((x.1 scope stand fits told).lays t (some_same (optional_is (Some ((treed raw x.0).gives scope)) (Some t) h)))

  -- ---- arms of a switch

  abbrev arm_phrases : Arms → Scope → Phrases
  arm_phrases xs scope = phrases_of_arms (in_order (map (scoped_of_arm raw) (bare_arms xs)) scope)

  arms_lay : (xs : Arms) (scope : Scope) → Fits p scope → AreTold raw p scope.variables (arm_phrases xs scope)
      → (t : IntType) (ms : List Arm) → map (λ (a : ArmTree). a t) (in_order (map (treed_arm raw) (bare_arms xs)) scope) ≡ map Some ms → map (arm_laid p) ms ≡ map raw_arm_laid (bare_arms xs)
  arms_lay [] scope fits told t [] h = refl
  arms_lay [] scope fits told t (m ∷ ms) h = no_list (sym h)
  arms_lay (x ∷ xs) scope fits told t [] h = no_list h
  arms_lay (x ∷ xs) scope fits told t (m ∷ ms) h =
      let next = (scoped_of_arm raw x.0).after scope in
      let one = x.1 scope fits (told_first raw p scope.variables ((scoped_of_arm raw x.0).gives scope).phrases (arm_phrases xs next) told) in
      let later = told_rest raw p scope.variables next.variables ((scoped_of_arm raw x.0).gives scope).phrases (arm_phrases xs next) ((arm_scoped raw x.0).counts scope InArm) told in
      ap₂ (λ (y : ℕ → Bytes) (ys : List (ℕ → Bytes)). y ∷ ys) (one.lays t m (head_is h))
      (arms_lay xs next one.fits later t ms (ap (λ (z : Scope). map (λ (a : ArmTree). a t) (in_order (map (treed_arm raw) (bare_arms xs)) z)) (sym ((arm_scoped raw x.0).same scope)) ∙ tail_is h))

  label_lays : (scope : Scope) → Fits p scope → (t : IntType) (a : RawLabel) (x : Label) → label_tree raw scope t a ≡ Some x → label_words p x ≡ raw_label_words a
  label_lays scope fits t (label.Case a) x h =
      let g = then_there (λ (y : Expr). option_map (λ (z : ℤ). arm_label.Case y (convert z t)) (value_of_constant a)) (expr_of raw scope a) x h in
      let k = map_there (λ (z : ℤ). arm_label.Case g.value (convert z t)) (value_of_constant a) x g.same in
      let c = then_there (λ (x : Constant). x.value) (constant a) k.value k.there in
      ap (label_words p) (sym k.same) ∙ ap (λ (w : Bytes). codes "case " ++ (w ++ codes ":")) (constant_layout raw p named scope fits a (subst IsThere (sym c.there) tt) g.value g.there)
  label_lays scope fits t label.Default x h = ap (label_words p) (sym (some_same h))

  labels_lay : (scope : Scope) → Fits p scope → (t : IntType) (as_ : List RawLabel) (xs : List Label) → map (label_tree raw scope t) as_ ≡ map Some xs → label_lines p xs ≡ raw_label_lines as_
  labels_lay scope fits t [] [] h = refl
  labels_lay scope fits t [] (x ∷ xs) h = no_list (sym h)
  labels_lay scope fits t (a ∷ as_) [] h = no_list h
  labels_lay scope fits t (a ∷ as_) (x ∷ xs) h =
      ap₂ laid_labels (label_lays scope fits t a x (head_is h)) (labels_lay scope fits t as_ xs (tail_is h))

  -- ---- targets

  pub record IsTargetLaid (scope : Scope) (to : RawTarget) : Type 0 where
    pub fits : Fits p (with_target raw to scope)
    pub lays : (x : Target) → target_tree raw scope to ≡ Some x → target_words p x ≡ raw_target_words to

  target_laid : (l : ℕ) (scope : Scope) (stand : Stand) (to : RawTarget) → ((a : RawExpr) → Contains (target_exprs to) a → AreClean raw (with_target raw to scope) a) → Fits p scope → AreTold raw p scope.variables (target_phrases raw l scope stand to) → IsTargetLaid scope to
  target_laid l scope stand target.None keeps fits told = record { fits = fits; lays = λ x h. ap (target_words p) (sym (some_same h)) }
  target_laid l scope stand (target.Place a) keeps fits told = record {
    fits = fits;
    lays = λ x h.
        let g = map_there to_place.Place (expr_of raw scope a) x h in
        ap (target_words p) (sym g.same) ∙ ap (λ (w : Bytes). w ++ codes " = ") (expr_layout raw p named scope fits a (keeps a (0, omega arith, refl)) g.value g.there);
  }
  target_laid l scope stand (target.Declared v) keeps fits told =
      let d = is_declared raw p named l scope.owner stand scope v init.None told.stand.0 in
      record { fits = d.fits fits; lays = λ x h. ap (target_words p) (sym (some_same h)) ∙ ap (λ (w : Bytes). w ++ codes " = ") d.words }

  -- ---- each form of statement

  abbrev shape : StatementParts IsLaid IsArmLaid → RawStatement-F RawStatement RawArm
  shape = statement_layer IsLaid IsArmLaid

  abbrev scoped_as : RawStatement-F RawStatement RawArm → Scoped (Stand → Phrases)
  scoped_as y = scoped_step raw (map-RawStatement RawStatement RawArm (Scoped (Stand → Phrases)) (Scoped ArmText) (scoped raw) (scoped_of_arm raw) y)

  abbrev treed_as : RawStatement-F RawStatement RawArm → Scoped (Option Statement)
  treed_as y = treed_step raw (map-RawStatement RawStatement RawArm (Scoped (Option Statement)) (Scoped ArmTree) (treed raw) (treed_arm raw) y)

  abbrev laid_as : RawStatement-F RawStatement RawArm → Laid
  laid_as y = raw_statement_step (map-RawStatement RawStatement RawArm Laid (ℕ → Bytes) raw_laid raw_arm_laid y)

  abbrev LayerLays : RawStatement-F RawStatement RawArm → Type 0
  LayerLays y = LaysAs (scoped_as y) (treed_as y) (laid_as y)

  declare_lays : (l : ℕ) (v : RawVar) (i : RawInit) → LayerLays (RawStatement-F.Declare l v i)
  declare_lays l v i scope stand fits told =
      let d = is_declared raw p named l scope.owner stand scope v i told.stand.0 in
      record {
        fits = begun_fits i (with_variable raw v i scope) (d.fits fits);
        lays = λ t h.
            let g = map_there (s.Declare (declaration_id i scope.statements) l scope.variables) (init_of raw (with_variable raw v i scope) i) t h in
            ap (laid p) (sym g.same) ∙ laid-Declare p (declaration_id i scope.statements) l scope.variables g.value
            ∙ ap₂ (λ (x y : Bytes). plain (x ++ y)) d.words (init_layout raw p named (with_variable raw v i scope) (d.fits fits) i (begins_kept l scope stand v i told) g.value g.there);
      }

  assign_lays : (l : ℕ) (a : RawExpr) (op : _) (b : RawExpr) → LayerLays (RawStatement-F.Assign l a op b)
  assign_lays l a op b scope stand fits told = record {
    fits = fits;
    lays = λ t h.
        let g = both_there (λ (x y : Expr). s.Assign scope.statements l x op y) (expr_of raw scope a) (expr_of raw scope b) t h in
        ap (laid p) (sym g.same) ∙ laid-Assign p scope.statements l g.left op g.right
        ∙ ap₂ (λ (x y : Bytes). plain (x ++ (codes " " ++ (assign_sign op ++ (codes " " ++ y))))) (expr_layout raw p named scope fits a (only_kept scope (Assigns a op b) a told.kept.0 (0, omega arith, refl)) g.left g.left_there)
        (expr_layout raw p named scope fits b (only_kept scope (Assigns a op b) b told.kept.0 (1, omega arith, refl)) g.right g.right_there);
  }

  bump_lays : (l : ℕ) (a : RawExpr) (up before : _) → LayerLays (RawStatement-F.Bump l a up before)
  bump_lays l a up before scope stand fits told = record {
    fits = fits;
    lays = λ t h.
        let g = map_there (λ (x : Expr). s.Bump scope.statements l x up before) (expr_of raw scope a) t h in
        ap (laid p) (sym g.same) ∙ laid-Bump p scope.statements l g.value up before ∙ ap (λ (w : Bytes). plain (bump_words w up before)) (expr_layout raw p named scope fits a (only_kept scope (Bumps a) a told.kept.0 (0, omega arith, refl)) g.value g.there);
  }

  return_lays : (l : ℕ) (a : Option RawExpr) → LayerLays (RawStatement-F.Return l a)
  return_lays l a scope stand fits told = record {
    fits = fits;
    lays = λ t h.
        let g = map_there (s.Return scope.statements l) (optional (option_map (expr_of raw scope) a)) t h in
        ap (laid p) (sym g.same) ∙ laid-Return p scope.statements l g.value ∙ ap plain (words a (λ b c. only_kept scope (Returns a) b told.kept.0 c) g.value g.there);
  }
    where
      words : (a : Option RawExpr) → ((b : RawExpr) → Contains (if_given a) b → AreClean raw scope b) → (x : Option Expr) → optional (option_map (expr_of raw scope) a) ≡ Some x → return_words p x ≡ raw_return_words a
      words None keeps x h = ap (return_words p) (sym (some_same h))
      words (Some a) keeps None h = none_there (sym (optional_is (Some (expr_of raw scope a)) None h))
      words (Some a) keeps (Some x) h = ap (λ (w : Bytes). codes "return " ++ w) (expr_layout raw p named scope fits a (keeps a (0, omega arith, refl)) x (some_same (optional_is (Some (expr_of raw scope a)) (Some x) h)))

  call_lays : (l : ℕ) (to : RawTarget) (f : Bytes) (args : _) → LayerLays (RawStatement-F.Call l to f args)
  call_lays l to f args scope stand fits told =
      let at = with_target raw to scope in
      let last = phrase l at (Calls stand to f args) ∷ [] in
      let e = told_rest raw p scope.variables at.variables (target_phrases raw l scope stand to) last (target_count raw l scope stand to) told in
      let all = kept_clean raw at (Calls stand to f args) e.kept.0 in
      let k = target_laid l scope stand to (λ a c. all a (Contains-append_left (target_exprs to) (arg_exprs args) a c)) fits (told_first raw p scope.variables (target_phrases raw l scope stand to) last told) in
      record { fits = k.fits; lays = λ t h. call_layout raw p named at k.fits stand to (target_tree raw scope to) k.lays args (λ a c. all a (Contains-append_right (target_exprs to) (arg_exprs args) a c)) scope.statements l f t e.kept.0 h }

  heap_lays : (l : ℕ) (to : RawTarget) (cast : _) (n : _) → LayerLays (RawStatement-F.Heap l to cast n)
  heap_lays l to cast n scope stand fits told =
      let at = with_target raw to scope in
      let last = phrase l at (Allocates to cast n) ∷ [] in
      let e = told_rest raw p scope.variables at.variables (target_phrases raw l scope stand to) last (target_count raw l scope stand to) told in
      let all = kept_clean raw at (Allocates to cast n) e.kept.0 in
      let k = target_laid l scope stand to (λ a c. all a (Contains-append_left (target_exprs to) (counts n) a c)) fits (told_first raw p scope.variables (target_phrases raw l scope stand to) last told) in
      record { fits = k.fits; lays = λ t h. heap_layout raw p named at k.fits scope.statements l to (target_tree raw scope to) cast n t (λ a c. all a (Contains-append_right (target_exprs to) (counts n) a c)) k.lays h }

  if_lays : (l : ℕ) (a : RawExpr) (body other : Statements) → LayerLays (RawStatement-F.If l a (bare body) (bare other))
  if_lays l a body other scope stand fits told = record {
    fits = fits;
    lays = λ t h.
        let middle = after_block (map (scoped raw) (bare body)) (numbered scope) in
        let ps = block_phrases (map (scoped raw) (bare body)) (numbered scope) in
        let qs = block_phrases (map (scoped raw) (bare other)) middle in
        let tested = only_kept scope (Tests a) a told.kept.0 (0, omega arith, refl) in
        let told = told_later raw p scope.variables (phrase l scope (Tests a)) (ps ++ qs) refl told in
        let g = then_there (λ (x : Expr). both (s.If scope.statements l x) (block_tree (map (treed raw) (bare body)) (numbered scope)) (block_tree (map (treed raw) (bare other)) (after_block (map (treed raw) (bare body)) (numbered scope)))) (expr_of raw scope a) t h in
        let k = both_there (s.If scope.statements l g.value) _ _ t g.same in
        ap (laid p) (sym k.same) ∙ laid-If p scope.statements l g.value k.left k.right
        ∙ ap₂ (λ (x : Bytes) (y : List Laid). laid_if x y (map (laid p) k.right)) (expr_layout raw p named scope fits a tested g.value g.there)
        (block_lay body (numbered scope) fits (told_first raw p scope.variables ps qs told) k.left k.left_there)
        ∙ ap (laid_if (spaced_words a) (map raw_laid (bare body)))
        (block_lay other middle fits (told_rest raw p scope.variables middle.variables ps qs (after_block_count raw (bare body) (numbered scope)) told) k.right
        (ap (block_tree (map (treed raw) (bare other))) (sym (block_after_same raw (bare body) (numbered scope))) ∙ k.right_there));
  }

  while_lays : (l : ℕ) (a : RawExpr) (b : Statements) → LayerLays (RawStatement-F.While l a (bare b))
  while_lays l a b scope stand fits told = record {
    fits = fits;
    lays = λ t h.
        let tested = only_kept scope (Tests a) a told.kept.0 (0, omega arith, refl) in
        let told = told_later raw p scope.variables (phrase l scope (Tests a)) (block_phrases (map (scoped raw) (bare b)) (numbered scope)) refl told in
        let g = both_there (s.While scope.statements l) (expr_of raw scope a) (block_tree (map (treed raw) (bare b)) (numbered scope)) t h in
        ap (laid p) (sym g.same) ∙ laid-While p scope.statements l g.left g.right
        ∙ ap₂ laid_while (expr_layout raw p named scope fits a tested g.left g.left_there) (block_lay b (numbered scope) fits told g.right g.right_there);
  }

  do_lays : (l : ℕ) (a : RawExpr) (b : Statements) → LayerLays (RawStatement-F.Do l a (bare b))
  do_lays l a b scope stand fits told = record {
    fits = fits;
    lays = λ t h.
        let tested = only_kept scope (Tests a) a told.kept.0 (0, omega arith, refl) in
        let told = told_later raw p scope.variables (phrase l scope (Tests a)) (block_phrases (map (scoped raw) (bare b)) (numbered scope)) refl told in
        let g = both_there (s.Do scope.statements l) (expr_of raw scope a) (block_tree (map (treed raw) (bare b)) (numbered scope)) t h in
        ap (laid p) (sym g.same) ∙ laid-Do p scope.statements l g.left g.right
        ∙ ap₂ laid_do (expr_layout raw p named scope fits a tested g.left g.left_there) (block_lay b (numbered scope) fits told g.right g.right_there);
  }

  -- a for, over the parts that it has
  for_lay : (l : ℕ) (i : Part_of) (a : RawExpr) (step : Part_of) (b : Statements) (scope : Scope) → Fits p scope
      → AreTold raw p scope.variables (at_stand InFor (part_gives (mapped raw (scoped raw) (bare_part i)) (opened (numbered scope)))
      ++ (phrase l (scope_of_test (mapped raw (scoped raw) (bare_part i)) scope) (Tests a) ∷ (at_stand InBlock (part_gives (mapped raw (scoped raw) (bare_part step)) (scope_of_test (mapped raw (scoped raw) (bare_part i)) scope))
      ++ block_phrases (map (scoped raw) (bare b)) (scope_of_body (mapped raw (scoped raw) (bare_part i)) (mapped raw (scoped raw) (bare_part step)) scope))))
      → (t : Statement)
      → for_tree scope.statements l (part_tree (mapped raw (treed raw) (bare_part i)) (opened (numbered scope))) (expr_of raw (scope_of_test (mapped raw (treed raw) (bare_part i)) scope) a)
      (part_tree (mapped raw (treed raw) (bare_part step)) (scope_of_test (mapped raw (treed raw) (bare_part i)) scope))
      (block_tree (map (treed raw) (bare b)) (scope_of_body (mapped raw (treed raw) (bare_part i)) (mapped raw (treed raw) (bare_part step)) scope)) ≡ Some t
      → laid p t ≡ laid_for (mapped raw raw_laid (bare_part i)) (spaced_words a) (mapped raw raw_laid (bare_part step)) (map raw_laid (bare b))
  for_lay l i a step b scope fits told t h =
      let begin = opened (numbered scope) in
      let first = after_part (mapped raw (scoped raw) (bare_part i)) begin in
      let second = after_part (mapped raw (scoped raw) (bare_part step)) first in
      let ps = part_phrases i begin InFor in
      let qs = part_phrases step first InBlock in
      let rs = block_phrases (map (scoped raw) (bare b)) second in
      let fit_first = part_fits i begin InFor fits (told_first raw p scope.variables ps (phrase l first (Tests a) ∷ (qs ++ rs)) told) in
      let tested = only_kept first (Tests a) a (told_rest raw p scope.variables first.variables ps (phrase l first (Tests a) ∷ (qs ++ rs)) (after_part_count raw (bare_part i) begin InFor) told).kept.0 (0, omega arith, refl) in
      let behind = told_later raw p first.variables (phrase l first (Tests a)) (qs ++ rs) refl (told_rest raw p scope.variables first.variables ps (phrase l first (Tests a) ∷ (qs ++ rs)) (after_part_count raw (bare_part i) begin InFor) told) in
      let fit_second = part_fits step first InBlock fit_first (told_first raw p first.variables qs rs behind) in
      let begins = part_tree (mapped raw (treed raw) (bare_part i)) begin in
      let h : for_tree scope.statements l begins (expr_of raw first a) (part_tree (mapped raw (treed raw) (bare_part step)) first) (block_tree (map (treed raw) (bare b)) (after_part (mapped raw (treed raw) (bare_part step)) first)) ≡ Some t
      = ap (λ (z : Scope). for_tree scope.statements l begins (expr_of raw z a) (part_tree (mapped raw (treed raw) (bare_part step)) z) (block_tree (map (treed raw) (bare b)) (after_part (mapped raw (treed raw) (bare_part step)) z))) (sym (after_part_same raw (bare_part i) begin)) ∙ h in
      let h : for_tree scope.statements l begins (expr_of raw first a) (part_tree (mapped raw (treed raw) (bare_part step)) first) (block_tree (map (treed raw) (bare b)) second) ≡ Some t
      = ap (λ (z : Scope). for_tree scope.statements l begins (expr_of raw first a) (part_tree (mapped raw (treed raw) (bare_part step)) first) (block_tree (map (treed raw) (bare b)) z)) (sym (after_part_same raw (bare_part step) first)) ∙ h in
      let g = then_there (λ (x : Option Statement). option_and_then (λ (y : Expr). both (s.For scope.statements l x y) (part_tree (mapped raw (treed raw) (bare_part step)) first) (block_tree (map (treed raw) (bare b)) second)) (expr_of raw first a)) begins t h in
      let k = then_there (λ (y : Expr). both (s.For scope.statements l g.value y) (part_tree (mapped raw (treed raw) (bare_part step)) first) (block_tree (map (treed raw) (bare b)) second)) (expr_of raw first a) t g.same in
      let m = both_there (s.For scope.statements l g.value k.value) (part_tree (mapped raw (treed raw) (bare_part step)) first) (block_tree (map (treed raw) (bare b)) second) t k.same in
      ap (laid p) (sym m.same) ∙ laid-For p scope.statements l g.value k.value m.left m.right
      ∙ ap₂ (λ (x : Option Laid) (w : Bytes). laid_for x w (option_map (laid p) m.left) (map (laid p) m.right))
      (part_lays i begin InFor fits (told_first raw p scope.variables ps (phrase l first (Tests a) ∷ (qs ++ rs)) told) g.value g.there)
      (expr_layout raw p named first fit_first a tested k.value k.there)
      ∙ ap₂ (laid_for (mapped raw raw_laid (bare_part i)) (spaced_words a))
      (part_lays step first InBlock fit_first (told_first raw p first.variables qs rs behind) m.left m.left_there)
      (block_lay b second fit_second (told_rest raw p first.variables second.variables qs rs (after_part_count raw (bare_part step) first InBlock) behind) m.right m.right_there)

  switch_lays : (l : ℕ) (a : RawExpr) (arms : Arms) → LayerLays (RawStatement-F.Switch l a (bare_arms arms))
  switch_lays l a arms scope stand fits told = record {
    fits = fits;
    lays = λ t h.
        let tested = only_kept scope (Switches a (labels_of (in_order (map (scoped_of_arm raw) (bare_arms arms)) (opened (numbered scope))))) a told.kept.0 (0, omega arith, refl) in
        let told = told_later raw p scope.variables (phrase l scope (Switches a (labels_of (in_order (map (scoped_of_arm raw) (bare_arms arms)) (opened (numbered scope)))))) (arm_phrases arms (opened (numbered scope))) refl told in
        let g = then_there (λ (x : Expr). option_and_then (λ (t : IntType). option_map (s.Switch scope.statements l x) (at_type t (in_order (map (treed_arm raw) (bare_arms arms)) (opened (numbered scope))))) (switch_type raw scope a)) (expr_of raw scope a) t h in
        let k = then_there (λ (t : IntType). option_map (s.Switch scope.statements l g.value) (at_type t (in_order (map (treed_arm raw) (bare_arms arms)) (opened (numbered scope))))) (switch_type raw scope a) t g.same in
        let m = map_there (s.Switch scope.statements l g.value) (at_type k.value (in_order (map (treed_arm raw) (bare_arms arms)) (opened (numbered scope)))) t k.same in
        ap (laid p) (sym m.same) ∙ laid-Switch p scope.statements l g.value m.value
        ∙ ap₂ laid_switch (expr_layout raw p named scope fits a tested g.value g.there) (arms_lay arms (opened (numbered scope)) fits told k.value m.value (collected_are _ m.value m.there));
  }

  block_lays : (l : ℕ) (b : Statements) → LayerLays (RawStatement-F.Block l (bare b))
  block_lays l b scope stand fits told = record {
    fits = fits;
    lays = λ t h.
        let g = map_there (s.Block l) (block_tree (map (treed raw) (bare b)) scope) t h in
        ap (laid p) (sym g.same) ∙ laid-Block p l g.value ∙ ap laid_block (block_lay b scope fits told g.value g.there);
  }

  layer_lays : (y : StatementParts IsLaid IsArmLaid) → LayerLays (shape y)
  layer_lays (RawStatement-F.Declare l v i) = declare_lays l v i
  layer_lays (RawStatement-F.Assign l a op b) = assign_lays l a op b
  layer_lays (RawStatement-F.Bump l a up before) = bump_lays l a up before
  layer_lays (RawStatement-F.Call l to f args) = call_lays l to f args
  layer_lays (RawStatement-F.Heap l to cast n) = heap_lays l to cast n
  layer_lays (RawStatement-F.If l a body other) = if_lays l a body other
  layer_lays (RawStatement-F.While l a b) = while_lays l a b
  layer_lays (RawStatement-F.Do l a b) = do_lays l a b
  layer_lays (RawStatement-F.For l None a None b) = λ scope stand fits told. record { fits = fits; lays = for_lay l None a None b scope fits told }
  layer_lays (RawStatement-F.For l None a (Some k) b) = λ scope stand fits told. record { fits = fits; lays = for_lay l None a (Some k) b scope fits told }
  layer_lays (RawStatement-F.For l (Some i) a None b) = λ scope stand fits told. record { fits = fits; lays = for_lay l (Some i) a None b scope fits told }
  layer_lays (RawStatement-F.For l (Some i) a (Some k) b) = λ scope stand fits told. record { fits = fits; lays = for_lay l (Some i) a (Some k) b scope fits told }
  layer_lays (RawStatement-F.Switch l a arms) = switch_lays l a arms
  layer_lays (RawStatement-F.Block l b) = block_lays l b
  layer_lays (RawStatement-F.Return l a) = return_lays l a

  statement_rolled : (y : StatementParts IsLaid IsArmLaid) → IsLaid (roll-RawStatement (shape y))
  statement_rolled y =
      subst (λ (out : Laid). LaysAs (scoped raw (roll-RawStatement (shape y))) (treed raw (roll-RawStatement (shape y))) out) (sym (fold-roll-RawStatement Laid (ℕ → Bytes) raw_statement_step raw_arm_step (shape y)))
      (subst (λ (b : Scoped (Option Statement)). LaysAs (scoped raw (roll-RawStatement (shape y))) b (laid_as (shape y))) (sym (fold-roll-RawStatement (Scoped (Option Statement)) (Scoped ArmTree) (treed_step raw) (arm_tree_step raw) (shape y)))
      (subst (λ (a : Scoped (Stand → Phrases)). LaysAs a (treed_as (shape y)) (laid_as (shape y))) (sym (fold-roll-RawStatement (Scoped (Stand → Phrases)) (Scoped ArmText) (scoped_step raw) scoped_arm (shape y)))
      (layer_lays y)))

  -- ---- an arm

  abbrev arm_shape : ArmParts IsLaid IsArmLaid → RawArm-F RawStatement RawArm
  arm_shape = arm_layer IsLaid IsArmLaid

  abbrev arm_scoped_as : RawArm-F RawStatement RawArm → Scoped ArmText
  arm_scoped_as y = scoped_arm (map-RawArm RawStatement RawArm (Scoped (Stand → Phrases)) (Scoped ArmText) (scoped raw) (scoped_of_arm raw) y)

  abbrev arm_treed_as : RawArm-F RawStatement RawArm → Scoped ArmTree
  arm_treed_as y = arm_tree_step raw (map-RawArm RawStatement RawArm (Scoped (Option Statement)) (Scoped ArmTree) (treed raw) (treed_arm raw) y)

  abbrev arm_laid_as : RawArm-F RawStatement RawArm → ℕ → Bytes
  arm_laid_as y = raw_arm_step (map-RawArm RawStatement RawArm Laid (ℕ → Bytes) raw_laid raw_arm_laid y)

  arm_lays : (y : ArmParts IsLaid IsArmLaid) → ArmLaysAs (arm_scoped_as (arm_shape y)) (arm_treed_as (arm_shape y)) (arm_laid_as (arm_shape y))
  arm_lays y scope fits told = record {
    fits = all_fit y.body scope InArm fits told;
    lays = λ t m h.
        let g = both_there arm_tree (collected (map (label_tree raw scope t) y.labels)) (collected (in_order (map (treed raw) (bare y.body)) scope)) m h in
        ap (arm_laid p) (sym g.same) ∙ fold-roll-Arm Laid (ℕ → Bytes) (statement_step p) (arm_step p) (record { labels = g.left; body = g.right })
        ∙ ap₂ laid_case (labels_lay scope fits t y.labels g.left (collected_are _ g.left g.left_there)) (all_lay y.body scope InArm fits told g.right (collected_are _ g.right g.right_there));
  }

  arm_rolled : (y : ArmParts IsLaid IsArmLaid) → IsArmLaid (roll-RawArm (arm_shape y))
  arm_rolled y =
      subst (λ (out : ℕ → Bytes). ArmLaysAs (scoped_of_arm raw (roll-RawArm (arm_shape y))) (treed_arm raw (roll-RawArm (arm_shape y))) out) (sym (fold-roll-RawArm Laid (ℕ → Bytes) raw_statement_step raw_arm_step (arm_shape y)))
      (subst (λ (b : Scoped ArmTree). ArmLaysAs (scoped_of_arm raw (roll-RawArm (arm_shape y))) b (arm_laid_as (arm_shape y))) (sym (fold-roll-RawArm (Scoped (Option Statement)) (Scoped ArmTree) (treed_step raw) (arm_tree_step raw) (arm_shape y)))
      (subst (λ (a : Scoped ArmText). ArmLaysAs a (arm_treed_as (arm_shape y)) (arm_laid_as (arm_shape y))) (sym (fold-roll-RawArm (Scoped (Stand → Phrases)) (Scoped ArmText) (scoped_step raw) scoped_arm (arm_shape y)))
      (arm_lays y)))

  -- the layout of a statement of the program is that of the text's statement
  pub statement_laid : (x : RawStatement) → IsLaid x
  statement_laid = of_every_statement IsLaid IsArmLaid statement_rolled arm_rolled

  abbrev with_facts : List RawStatement → Statements
  with_facts [] = []
  with_facts (x ∷ xs) = (x, statement_laid x) ∷ with_facts xs

  facts_of : (xs : List RawStatement) → bare (with_facts xs) ≡ xs
  facts_of [] = refl
  facts_of (x ∷ xs) = ap (λ (ys : List RawStatement). x ∷ ys) (facts_of xs)

  -- the layout of a list of statements
  pub list_laid : (body : List RawStatement) (scope : Scope) (stand : Stand) → Fits p scope → AreTold raw p scope.variables (joined_at stand (in_order (map (scoped raw) body) scope))
      → (ts : List Statement) → in_order (map (treed raw) body) scope ≡ map Some ts → map (laid p) ts ≡ map raw_laid body
  list_laid body =
      subst (λ (xs : List RawStatement). (scope : Scope) (stand : Stand) → Fits p scope → AreTold raw p scope.variables (joined_at stand (in_order (map (scoped raw) xs) scope))
      → (ts : List Statement) → in_order (map (treed raw) xs) scope ≡ map Some ts → map (laid p) ts ≡ map raw_laid xs) (facts_of body) (all_lay (with_facts body))
