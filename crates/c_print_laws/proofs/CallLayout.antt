-- The words of initialisers, calls and allocations of a program are those of the text.
use Rattle.std.proofs.Common.{◌≡◌, ◌≢◌, ℕ, suc, arith, List, [], ◌∷◌, ◌++◌, Bool, true, false, Option, Some, None, codes, refl, sym, ap, ap₂, subst, ◌∙◌, map}
use Rattle.std.specs.Prelude.{Contains, option_map, option_and_then, if◌then◌else◌, bytes_eq}
use Rattle.std.proofs.lemmas.Slice.Eq.{bytes_eq-Decides}
use Rattle.c_language.proofs.Operands.{AreClean}
use Rattle.c_tree.specs.declared.types.CType.{CType}
use Rattle.c_tree.specs.declared.expr.Expr.{Expr}
use Rattle.c_tree.specs.declared.program.Program.{Program}
use Rattle.c_tree.specs.declared.program.Init.{Init}
use Rattle.c_tree.specs.declared.program.Init.TheVariants as begins
use Rattle.c_tree.specs.declared.statement.Target.{Target}
use Rattle.c_tree.specs.declared.statement.Size.{Size}
use Rattle.c_tree.specs.declared.statement.Size.TheVariants as measure
use Rattle.c_tree.specs.declared.statement.Amount.{Amount}
use Rattle.c_tree.specs.declared.statement.Amount.TheVariants as quantity
use Rattle.c_tree.specs.declared.statement.Statement.{Statement}
use Rattle.c_tree.specs.declared.statement.Statement.TheVariants as s
use Rattle.c_tree.specs.declared.raw.expr.RawExpr.{RawExpr}
use Rattle.c_tree.specs.declared.raw.program.RawInit.{RawInit}
use Rattle.c_tree.specs.declared.raw.program.RawInit.TheVariants as init
use Rattle.c_tree.specs.declared.raw.program.RawProgram.{RawProgram}
use Rattle.c_tree.specs.declared.raw.statement.RawTarget.{RawTarget}
use Rattle.c_tree.specs.declared.raw.statement.RawTarget.TheVariants as target
use Rattle.c_tree.specs.declared.raw.statement.RawArg.{RawArg}
use Rattle.c_tree.specs.declared.raw.statement.RawArg.TheVariants as arg
use Rattle.c_tree.specs.declared.raw.statement.RawTypeName.{RawTypeName}
use Rattle.c_tree.specs.declared.raw.statement.RawSize.{RawSize}
use Rattle.c_tree.specs.declared.raw.statement.RawSize.TheVariants as size
use Rattle.c_tree.specs.declared.raw.statement.RawAmount.{RawAmount}
use Rattle.c_tree.specs.declared.raw.statement.RawAmount.TheVariants as amount
use Rattle.c_language.specs.Words.{Bytes, joined, name_of_var, expr_words}
use Rattle.c_language.specs.Layout.{plain, init_words, target_words, pointee_words, size_words, amount_words, cast_words, call_words, laid}
use Rattle.c_language.specs.TypeGrammar.{named_type}
use Rattle.c_language.specs.ConstantEvaluation.{both}
use Rattle.c_language.specs.DeclaredTypes.{function_id}
use Rattle.c_language.specs.Scopes.{Scope, meaning_in}
use Rattle.c_language.specs.Phrases.{Stand, Calls}
use Rattle.c_language.specs.Rules.{Breaks, result, library}
use Rattle.c_language.specs.CallRules.{later_args, format_in, without_result, MisusesResult, MisusesLibrary}
use Rattle.c_language.specs.Uses.{is_among, init_exprs, arg_exprs, counts}
use Rattle.c_language.specs.ProgramOf.{ctype, ctype_if, expr_of, exprs_of, init_of, variable_number, arg_tree, args_tree, only_tree, print_tree, invoke_tree, call_tree, size_tree, amount_tree, heap_tree, optional}
use Rattle.c_language.proofs.LayoutLemmas.{laid-Invoke, laid-Fetch, laid-Write, laid-Print, laid-Heap, laid-Release}
use Rattle.c_text_layout.specs.RawLayout.{raw_init_words, raw_target_words, raw_arg_words, raw_pointee_words, raw_size_words, raw_amount_words, raw_cast_words}
use Rattle.c_print_laws.proofs.Options.{collected_are}
use Rattle.c_print_laws.proofs.Named.{IsNamed, Fits}
use Rattle.c_print_laws.proofs.ExprLayout.{variable_named, expr_layout, exprs_layout}
use Rattle.c_print_laws.proofs.TypeLayout.{nameless_layout}
use Rattle.c_language.proofs.Options.{none_there, some_same, map_there, then_there, both_there}
use Rattle.c_language.proofs.Lists.{no_list, head_is, tail_is}

pub optional_is : {A : Type 0} (x : Option (Option A)) (y : Option A) → optional x ≡ Some y → x ≡ option_map Some y
optional_is None y h = ap (option_map Some) (some_same h)
optional_is (Some None) y h = none_there h
optional_is (Some (Some a)) y h = ap (option_map Some) (some_same h)

abbrev IsNone : RawTarget → Type 0
IsNone target.None = Unit {0}
IsNone (target.Place a) = ⊥
IsNone (target.Declared v) = ⊥

module _ (raw : RawProgram) (p : Program) (named : IsNamed raw p) (scope : Scope) (fits : Fits p scope) where
  -- the expressions break no rule
  abbrev pub AllKept : List RawExpr → Type 0
  AllKept all = (a : RawExpr) → Contains all a → AreClean raw scope a

  kept_first : (a : RawExpr) (all : List RawExpr) → AllKept (a ∷ all) → AreClean raw scope a
  kept_first a all keeps = keeps a (0, omega arith, refl)

  kept_later : (a : RawExpr) (all : List RawExpr) → AllKept (a ∷ all) → AllKept all
  kept_later a all keeps = λ b c. keeps b (suc c.0, omega (arith, c.1), c.2)

  pub init_layout : (i : RawInit) → AllKept (init_exprs i) → (x : Init) → init_of raw scope i ≡ Some x → init_words p x ≡ raw_init_words i
  init_layout init.None keeps x h = ap (init_words p) (sym (some_same h))
  init_layout (init.One a) keeps x h =
      let g = map_there begins.One (expr_of raw scope a) x h in
      ap (init_words p) (sym g.same) ∙ ap (λ (w : Bytes). codes " = " ++ w) (expr_layout raw p named scope fits a (kept_first a [] keeps) g.value g.there)
  init_layout (init.Items all) keeps x h =
      let g = map_there begins.Items (exprs_of raw scope all) x h in
      ap (init_words p) (sym g.same) ∙ ap (λ (ws : List Bytes). codes " = {" ++ (joined (codes ", ") ws ++ codes "}")) (exprs_layout raw p named scope fits all keeps g.value (collected_are _ g.value g.there))

  -- ---- arguments

  args_laid : (all : List RawArg) → AllKept (arg_exprs all) → (xs : List Expr) → map (arg_tree raw scope) all ≡ map Some xs → map (expr_words p) xs ≡ map raw_arg_words all
  args_laid [] keeps [] h = refl
  args_laid [] keeps (x ∷ xs) h = no_list (sym h)
  args_laid (a ∷ all) keeps [] h = no_list h
  args_laid (arg.Value a ∷ all) keeps (x ∷ xs) h =
      ap₂ (λ (w : Bytes) (ws : List Bytes). w ∷ ws) (expr_layout raw p named scope fits a (kept_first a (arg_exprs all) keeps) x (head_is h))
      (args_laid all (kept_later a (arg_exprs all) keeps) xs (tail_is h))
  args_laid (arg.Literal text ∷ all) keeps (x ∷ xs) h = none_there (head_is h)

  args_layout : (all : List RawArg) → AllKept (arg_exprs all) → (xs : List Expr) → args_tree raw scope all ≡ Some xs → map (expr_words p) xs ≡ map raw_arg_words all
  args_layout all keeps xs h = args_laid all keeps xs (collected_are (map (arg_tree raw scope) all) xs h)

  only_layout : (all : List RawArg) → AllKept (arg_exprs all) → (x : Expr) → only_tree raw scope all ≡ Some x → expr_words p x ∷ [] ≡ map raw_arg_words all
  only_layout [] keeps x h = none_there h
  only_layout (arg.Value a ∷ []) keeps x h = ap (λ (w : Bytes). w ∷ []) (expr_layout raw p named scope fits a (kept_first a [] keeps) x h)
  only_layout (arg.Literal text ∷ []) keeps x h = none_there h
  only_layout (arg.Value a ∷ (b ∷ all)) keeps x h = none_there h
  only_layout (arg.Literal text ∷ (b ∷ all)) keeps x h = none_there h

  later_kept : (all : List RawArg) → AllKept (arg_exprs all) → AllKept (arg_exprs (later_args all))
  later_kept [] keeps = keeps
  later_kept (arg.Value a ∷ all) keeps = kept_later a (arg_exprs all) keeps
  later_kept (arg.Literal text ∷ all) keeps = keeps

  format_layout : (all : List RawArg) (text : Bytes) → format_in all ≡ Some text → (ws : List Bytes) → ws ≡ map raw_arg_words (later_args all) → text ∷ ws ≡ map raw_arg_words all
  format_layout [] text h ws is = none_there h
  format_layout (arg.Value a ∷ all) text h ws is = none_there h
  format_layout (arg.Literal t ∷ all) text h ws is = ap₂ (λ (w : Bytes) (ws : List Bytes). w ∷ ws) (sym (some_same h)) is

  -- ---- allocations

  size_layout : (m : RawSize) (x : Size) → size_tree raw scope m ≡ Some x → size_words p x ≡ raw_size_words m
  size_layout (size.Type t) x h =
      let g = map_there measure.Type (ctype raw (named_type t)) x h in
      ap (size_words p) (sym g.same) ∙ ap (λ (w : Bytes). codes "sizeof(" ++ (w ++ codes ")")) (nameless_layout raw p named 0 (named_type t) g.value g.there)
  size_layout (size.Pointee name closed) x h =
      let g = map_there (λ (k : ℕ). measure.Pointee k closed) (variable_number (meaning_in scope name)) x h in
      ap (size_words p) (sym g.same) ∙ pointee closed g.value (variable_named raw p named scope fits name (meaning_in scope name) refl g.value g.there)
    where
      pointee : (closed : Bool) (k : ℕ) → name_of_var p k ≡ name → pointee_words p k closed ≡ raw_pointee_words name closed
      pointee true k is = ap (λ (w : Bytes). codes "sizeof(*" ++ (w ++ codes ")")) is
      pointee false k is = ap (λ (w : Bytes). codes "sizeof *" ++ w) is

  amount_layout : (n : RawAmount) → AllKept (counts n) → (x : Amount) → amount_tree raw scope n ≡ Some x → amount_words p x ≡ raw_amount_words n
  amount_layout (amount.Size m) keeps x h =
      let g = map_there quantity.Size (size_tree raw scope m) x h in
      ap (amount_words p) (sym g.same) ∙ size_layout m g.value g.there
  amount_layout (amount.CountSize a m) keeps x h =
      let g = then_there (λ (y : Expr). option_map (quantity.CountSize y) (size_tree raw scope m)) (expr_of raw scope a) x h in
      let k = map_there (quantity.CountSize g.value) (size_tree raw scope m) x g.same in
      ap (amount_words p) (sym k.same) ∙ ap₂ (λ (v w : Bytes). v ++ (codes " * " ++ w)) (expr_layout raw p named scope fits a (kept_first a [] keeps) g.value g.there) (size_layout m k.value k.there)
  amount_layout (amount.SizeCount m a) keeps x h =
      let g = then_there (λ (y : Size). option_map (quantity.SizeCount y) (expr_of raw scope a)) (size_tree raw scope m) x h in
      let k = map_there (quantity.SizeCount g.value) (expr_of raw scope a) x g.same in
      ap (amount_words p) (sym k.same) ∙ ap₂ (λ (v w : Bytes). v ++ (codes " * " ++ w)) (size_layout m g.value g.there) (expr_layout raw p named scope fits a (kept_first a [] keeps) k.value k.there)
  amount_layout (amount.Count a) keeps x h =
      let g = map_there quantity.Count (expr_of raw scope a) x h in
      ap (amount_words p) (sym g.same) ∙ expr_layout raw p named scope fits a (kept_first a [] keeps) g.value g.there

  cast_layout : (c : Option RawTypeName) (x : Option CType) → ctype_if raw (option_map named_type c) ≡ Some x → cast_words p x ≡ raw_cast_words c
  cast_layout None x h = ap (cast_words p) (sym (some_same h))
  cast_layout (Some c) None h = elim_none (ctype raw (named_type c)) (optional_is (Some (ctype raw (named_type c))) None h)
    where
      elim_none : {A : Type 0} (o : Option CType) → ◌≡◌ {A = Option (Option CType)} (Some o) None → A
      elim_none o e = none_there (sym e)
  cast_layout (Some c) (Some t) h =
      ap (λ (w : Bytes). codes "(" ++ (w ++ codes ")")) (nameless_layout raw p named 0 (named_type c) t (some_same (optional_is (Some (ctype raw (named_type c))) (Some t) h)))

  -- a target of the program, in the words of the text
  abbrev pub TargetLaid : RawTarget → Option Target → Type 0
  TargetLaid to tree = (x : Target) → tree ≡ Some x → target_words p x ≡ raw_target_words to

  pub heap_layout : (id l : ℕ) (to : RawTarget) (tree : Option Target) (cast : Option RawTypeName) (n : RawAmount) (x : Statement) → AllKept (counts n) → TargetLaid to tree
      → heap_tree raw scope id l tree cast n ≡ Some x → laid p x ≡ plain (raw_target_words to ++ (raw_cast_words cast ++ call_words (codes "malloc") (raw_amount_words n ∷ [])))
  heap_layout id l to tree cast n x keeps lays h =
      let g = then_there (λ (t : Target). option_and_then (λ (c : Option CType). option_map (s.Heap id l t c) (amount_tree raw scope n)) (ctype_if raw (option_map named_type cast))) tree x h in
      let c = then_there (λ (c : Option CType). option_map (s.Heap id l g.value c) (amount_tree raw scope n)) (ctype_if raw (option_map named_type cast)) x g.same in
      let k = map_there (s.Heap id l g.value c.value) (amount_tree raw scope n) x c.same in
      ap (laid p) (sym k.same) ∙ laid-Heap p id l g.value c.value k.value
      ∙ ap₂ (λ (v w : Bytes). plain (v ++ w)) (lays g.value g.there)
      (ap₂ (λ (v w : Bytes). v ++ call_words (codes "malloc") (w ∷ [])) (cast_layout cast c.value c.there) (amount_layout n keeps k.value k.there))

  -- ---- calls

  module _ (stand : Stand) (to : RawTarget) (tree : Option Target) (lays : TargetLaid to tree) (args : List RawArg) (keeps : AllKept (arg_exprs args)) (id l : ℕ) where
    abbrev Kept : Bytes → Type 0
    Kept f = (n : ℕ) → Breaks raw scope (Calls stand to f args) n → ⊥

    abbrev CallLaid : Bytes → Statement → Type 0
    CallLaid f x = laid p x ≡ plain (raw_target_words to ++ call_words f (map raw_arg_words args))

    no_target : (f : Bytes) → Kept f → is_among without_result f ≡ true → raw_target_words to ≡ []
    no_target f kept is = by_target to (λ other. kept 17 (result (MisusesResult.library other is)))
      where
        by_target : (to : RawTarget) → (to ≢ target.None → ⊥) → raw_target_words to ≡ []
        by_target target.None h = refl
        by_target (target.Place a) h = absurd (h (λ is. subst IsNone (sym is) tt))
        by_target (target.Declared v) h = absurd (h (λ is. subst IsNone (sym is) tt))

    no_args : Kept (codes "getchar") → args ≡ []
    no_args kept = by_args args (λ other. kept 21 (library (MisusesLibrary.getchar_count other)))
      where
        by_args : (all : List RawArg) → (all ≢ [] → ⊥) → all ≡ []
        by_args [] h = refl
        by_args (a ∷ all) h = absurd (h (λ is. no_list is))

    fetch_layout : (x : Statement) → Kept (codes "getchar") → option_map (s.Fetch id l) tree ≡ Some x → CallLaid (codes "getchar") x
    fetch_layout x kept h =
        let g = map_there (s.Fetch id l) tree x h in
        ap (laid p) (sym g.same) ∙ laid-Fetch p id l g.value
        ∙ ap₂ (λ (v : Bytes) (all : List RawArg). plain (v ++ call_words (codes "getchar") (map raw_arg_words all))) (lays g.value g.there) (sym (no_args kept))

    write_layout : (x : Statement) → Kept (codes "putchar") → option_map (s.Write id l) (only_tree raw scope args) ≡ Some x → CallLaid (codes "putchar") x
    write_layout x kept h =
        let g = map_there (s.Write id l) (only_tree raw scope args) x h in
        ap (laid p) (sym g.same) ∙ laid-Write p id l g.value
        ∙ ap₂ (λ (v : Bytes) (ws : List Bytes). plain (v ++ call_words (codes "putchar") ws)) (sym (no_target (codes "putchar") kept refl)) (only_layout args keeps g.value g.there)

    release_layout : (x : Statement) → Kept (codes "free") → option_map (s.Release id l) (only_tree raw scope args) ≡ Some x → CallLaid (codes "free") x
    release_layout x kept h =
        let g = map_there (s.Release id l) (only_tree raw scope args) x h in
        ap (laid p) (sym g.same) ∙ laid-Release p id l g.value
        ∙ ap₂ (λ (v : Bytes) (ws : List Bytes). plain (v ++ call_words (codes "free") ws)) (sym (no_target (codes "free") kept refl)) (only_layout args keeps g.value g.there)

    print_layout : (x : Statement) → Kept (codes "printf") → print_tree raw scope id l args ≡ Some x → CallLaid (codes "printf") x
    print_layout x kept h =
        let g = then_there (λ (text : Bytes). option_map (s.Print id l text) (args_tree raw scope (later_args args))) (format_in args) x h in
        let k = map_there (s.Print id l g.value) (args_tree raw scope (later_args args)) x g.same in
        ap (laid p) (sym k.same) ∙ laid-Print p id l g.value k.value
        ∙ ap₂ (λ (v : Bytes) (ws : List Bytes). plain (v ++ call_words (codes "printf") ws)) (sym (no_target (codes "printf") kept refl))
        (format_layout args g.value g.there (map (expr_words p) k.value) (args_layout (later_args args) (later_kept args keeps) k.value k.there))

    invoke_layout : (f : Bytes) (x : Statement) → invoke_tree raw scope id l tree f args ≡ Some x → CallLaid f x
    invoke_layout f x h =
        let g = then_there (λ (t : Target). both (s.Invoke id l t) (function_id raw f) (args_tree raw scope args)) tree x h in
        let k = both_there (s.Invoke id l g.value) (function_id raw f) (args_tree raw scope args) x g.same in
        ap (laid p) (sym k.same) ∙ laid-Invoke p id l g.value k.left k.right
        ∙ ap₂ (λ (v w : Bytes). plain (v ++ w)) (lays g.value g.there) (ap₂ call_words (named.functions f k.left k.left_there) (args_layout args keeps k.right k.right_there))

    by_name : (f g : Bytes) (b : Bool) → bytes_eq f g ≡ b → (met other : Option Statement) (x : Statement) → Kept f
        → (Kept g → met ≡ Some x → CallLaid g x) → (other ≡ Some x → CallLaid f x) → (if b then met else other) ≡ Some x → CallLaid f x
    by_name f g true is met other x kept first second h =
        let same : f ≡ g = (bytes_eq-Decides f g).0 is in
        subst (λ (w : Bytes). CallLaid w x) (sym same) (first (subst Kept same kept) h)
    by_name f g false is met other x kept first second h = second h

    pub call_layout : (f : Bytes) (x : Statement) → Kept f → call_tree raw scope id l tree f args ≡ Some x → CallLaid f x
    call_layout f x kept h =
        by_name f (codes "getchar") (bytes_eq f (codes "getchar")) refl _ _ x kept (fetch_layout x) (λ h.
        by_name f (codes "putchar") (bytes_eq f (codes "putchar")) refl _ _ x kept (write_layout x) (λ h.
        by_name f (codes "printf") (bytes_eq f (codes "printf")) refl _ _ x kept (print_layout x) (λ h.
        by_name f (codes "free") (bytes_eq f (codes "free")) refl _ _ x kept (release_layout x) (invoke_layout f x) h) h) h) h
