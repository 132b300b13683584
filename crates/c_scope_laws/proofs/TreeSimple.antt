-- What stays of the tree of a statement without parts.
use Rattle.std.proofs.Common.{◌≡◌, ℕ, List, [], ◌∷◌, ◌++◌, map, Bool, true, false, ◌||◌, Option, Some, None, codes, refl, sym, ap, ap₂, subst, ◌∙◌}
use Rattle.std.specs.Prelude.{option_map, option_and_then, if◌then◌else◌, bytes_eq}
use Rattle.c_arith.specs.declared.operators.BinaryOp.{BinaryOp}
use Rattle.c_tree.specs.declared.types.CType.{CType}
use Rattle.c_tree.specs.declared.expr.Expr.{Expr}
use Rattle.c_tree.specs.declared.statement.Target.{Target}
use Rattle.c_tree.specs.declared.statement.Target.TheVariants as to_place
use Rattle.c_tree.specs.declared.statement.Amount.{Amount}
use Rattle.c_tree.specs.declared.statement.Statement.{Statement}
use Rattle.c_tree.specs.declared.statement.Statement.TheVariants as s
use Rattle.c_tree.specs.declared.raw.program.RawProgram.{RawProgram}
use Rattle.c_tree.specs.declared.raw.statement.RawArg.{RawArg}
use Rattle.c_language.specs.Words.{Bytes}
use Rattle.c_language.specs.ConstantEvaluation.{both}
use Rattle.c_language.specs.DeclaredTypes.{function_id}
use Rattle.c_language.specs.Scopes.{Scope}
use Rattle.c_language.specs.CallRules.{format_in, later_args, without_result}
use Rattle.c_language.specs.Uses.{is_library_function, is_among}
use Rattle.c_language.specs.ProgramOf.{collected, arg_tree, args_tree, only_tree, print_tree, invoke_tree, call_tree}
use Rattle.c_language.proofs.Options.{none_there, some_same}
use Rattle.c_language.proofs.Tests.{false_true, none_of}
use Rattle.projection.specs.Renumbering.{Numbers, renamed, renumbered}
use Rattle.kept_numbers.specs.Ranks.{rank}
use Rattle.projection.specs.Kept.{Kept, chosen as chosen_places}
use Rattle.projection.specs.Projection.{if_so, bare_target, projected}
use Rattle.c_scope_laws.proofs.ChosenLists.{chosen_map, chosen_collected}
use Rattle.c_scope_laws.proofs.RenumberingLemmas.{renumbered-Assign, renumbered-Bump, renumbered-Invoke, renumbered-Fetch, renumbered-Write, renumbered-Print, renumbered-Heap, renumbered-Release, renumbered-Return}
use Rattle.c_scope_laws.proofs.TreeForms.{projected-Assign, projected-Bump, projected-Invoke, projected-Fetch, projected-Write, projected-Print, projected-Heap, projected-Release, projected-Return}
use Rattle.c_scope_laws.proofs.TreeLevels.{chosen, unchosen}

-- the numbers of what is kept, where functions have these
abbrev pub numbers_of : {F : Type 0} → Kept F → (ℕ → ℕ) → Numbers
numbers_of k functions = record { variable = rank k.variable; statement = rank k.statement; function = functions }

-- ---- calls, by what is called

by_tests : (a b c d : Bool) (x y z w v : Option Statement) → (a || (b || (c || (d || false)))) ≡ false → (if a then x else (if b then y else (if c then z else (if d then w else v)))) ≡ v
by_tests true b c d x y z w v h = false_true (sym h)
by_tests false true c d x y z w v h = false_true (sym h)
by_tests false false true d x y z w v h = false_true (sym h)
by_tests false false false true x y z w v h = false_true (sym h)
by_tests false false false false x y z w v h = refl

module _ (raw : RawProgram) (place : Scope) (n l : ℕ) (to : Option Target) (f : Bytes) (args : List RawArg) where
  -- a fact about each tree that a call can have
  pub call_by : (P : Statement → Type 0)
      → ((t : Target) → to ≡ Some t → is_library_function f ≡ true → P (s.Fetch n l t)) → ((a : Expr) → is_among without_result f ≡ true → P (s.Write n l a)) → ((text : Bytes) (as_ : List Expr) → is_among without_result f ≡ true → P (s.Print n l text as_))
      → ((a : Expr) → is_among without_result f ≡ true → P (s.Release n l a))
      → ((t : Target) (i : ℕ) (as_ : List Expr) → to ≡ Some t → is_library_function f ≡ false → P (s.Invoke n l t i as_))
      → (y : Statement) → call_tree raw place n l to f args ≡ Some y → P y
  call_by P fetch write print release invoke y is =
      by_getchar (bytes_eq f (codes "getchar")) refl (bytes_eq f (codes "putchar")) refl (bytes_eq f (codes "printf")) refl (bytes_eq f (codes "free")) refl is
    where
      moved : {w : Statement} → P w → ◌≡◌ {A = Option Statement} (Some w) (Some y) → P y
      moved p h = subst P (some_same h) p

      by_fetch : (o : Option Target) → to ≡ o → is_library_function f ≡ true → option_map (s.Fetch n l) o ≡ Some y → P y
      by_fetch None at h is = none_there is
      by_fetch (Some t) at h is = moved (fetch t at h) is

      by_value : (form : Expr → Statement) → ((a : Expr) → P (form a)) → (o : Option Expr) → option_map form o ≡ Some y → P y
      by_value form each None is = none_there is
      by_value form each (Some a) is = moved (each a) is

      by_print : is_among without_result f ≡ true → (o : Option Bytes) (x : Option (List Expr)) → option_and_then (λ (text : Bytes). option_map (s.Print n l text) x) o ≡ Some y → P y
      by_print h None x is = none_there is
      by_print h (Some text) None is = none_there is
      by_print h (Some text) (Some as_) is = moved (print text as_ h) is

      by_invoke : (o : Option Target) (i : Option ℕ) (x : Option (List Expr)) → to ≡ o → is_library_function f ≡ false → option_and_then (λ (t : Target). both (s.Invoke n l t) i x) o ≡ Some y → P y
      by_invoke None i x at h is = none_there is
      by_invoke (Some t) None x at h is = none_there is
      by_invoke (Some t) (Some i) None at h is = none_there is
      by_invoke (Some t) (Some i) (Some as_) at h is = moved (invoke t i as_ at h) is

      by_getchar : (a : Bool) → bytes_eq f (codes "getchar") ≡ a → (b : Bool) → bytes_eq f (codes "putchar") ≡ b → (c : Bool) → bytes_eq f (codes "printf") ≡ c → (d : Bool) → bytes_eq f (codes "free") ≡ d
          → (if a then option_map (s.Fetch n l) to else (if b then option_map (s.Write n l) (only_tree raw place args) else (if c then print_tree raw place n l args
          else (if d then option_map (s.Release n l) (only_tree raw place args) else invoke_tree raw place n l to f args)))) ≡ Some y → P y
      by_getchar true p b q c r d t is = by_fetch to refl (ap (λ (x : Bool). x || (bytes_eq f (codes "putchar") || (bytes_eq f (codes "printf") || (bytes_eq f (codes "free") || false)))) p) is
      by_getchar false p true q c r d t is = by_value (s.Write n l) (λ a. write a (ap (λ (x : Bool). x || (bytes_eq f (codes "printf") || (bytes_eq f (codes "free") || false))) q)) (only_tree raw place args) is
      by_getchar false p false q true r d t is = by_print (ap₂ (λ (x y : Bool). x || (y || (bytes_eq f (codes "free") || false))) q r) (format_in args) (args_tree raw place (later_args args)) is
      by_getchar false p false q false r true t is = by_value (s.Release n l) (λ a. release a (ap₂ (λ (x y : Bool). x || (y || (bytes_eq f (codes "free") || false))) q r ∙ ap (λ (z : Bool). false || (false || (z || false))) t)) (only_tree raw place args) is
      by_getchar false p false q false r false t is = by_invoke to (function_id raw f) (args_tree raw place args) refl (none_of _ _ _ _ p q r t) is

  -- what isn't of the library is invoked
  pub invoked : is_library_function f ≡ false → call_tree raw place n l to f args ≡ invoke_tree raw place n l to f args
  invoked h = by_tests (bytes_eq f (codes "getchar")) (bytes_eq f (codes "putchar")) (bytes_eq f (codes "printf")) (bytes_eq f (codes "free")) _ _ _ _ (invoke_tree raw place n l to f args) h

module _ {F : Type 0} (k : Kept F) (g : ℕ → ℕ) where
  abbrev ns : Numbers
  ns = numbers_of k g

  abbrev f : ℕ → ℕ
  f = rank k.variable

  -- a statement stays whole, or goes
  abbrev pub Whole : Statement → Type 0
  Whole w = projected k g w ≡ renumbered ns w ∷ []

  abbrev pub Gone : Statement → Type 0
  Gone w = projected k g w ≡ []

  module _ (n l : ℕ) where
    one : {x y : Statement} → x ≡ y → ◌≡◌ {A = List Statement} (y ∷ []) (x ∷ [])
    one h = ap (λ (z : Statement). z ∷ []) (sym h)

    pub assign_whole : k.statement n ≡ true → (a : Expr) (op : Option BinaryOp) (b : Expr) → Whole (s.Assign n l a op b)
    assign_whole kept a op b = projected-Assign k g n l a op b ∙ chosen _ [] kept ∙ one (renumbered-Assign ns n l a op b)

    pub bump_whole : k.statement n ≡ true → (a : Expr) (up before : Bool) → Whole (s.Bump n l a up before)
    bump_whole kept a up before = projected-Bump k g n l a up before ∙ chosen _ [] kept ∙ one (renumbered-Bump ns n l a up before)

    pub fetch_whole : k.statement n ≡ true → (t : Target) → Whole (s.Fetch n l t)
    fetch_whole kept t = projected-Fetch k g n l t ∙ chosen _ (bare_target k g l t) kept ∙ one (renumbered-Fetch ns n l t)

    pub write_whole : k.statement n ≡ true → (a : Expr) → Whole (s.Write n l a)
    write_whole kept a = projected-Write k g n l a ∙ chosen _ [] kept ∙ one (renumbered-Write ns n l a)

    pub print_whole : k.statement n ≡ true → (text : Bytes) (as_ : List Expr) → Whole (s.Print n l text as_)
    print_whole kept text as_ = projected-Print k g n l text as_ ∙ chosen _ [] kept ∙ one (renumbered-Print ns n l text as_)

    pub release_whole : k.statement n ≡ true → (a : Expr) → Whole (s.Release n l a)
    release_whole kept a = projected-Release k g n l a ∙ chosen _ [] kept ∙ one (renumbered-Release ns n l a)

    pub heap_whole : k.statement n ≡ true → (t : Target) (cast : Option CType) (m : Amount) → Whole (s.Heap n l t cast m)
    heap_whole kept t cast m = projected-Heap k g n l t cast m ∙ chosen _ (bare_target k g l t) kept ∙ one (renumbered-Heap ns n l t cast m)

    pub return_whole : k.statement n ≡ true → (a : Option Expr) → Whole (s.Return n l a)
    return_whole kept a = projected-Return k g n l a ∙ chosen _ [] kept ∙ one (renumbered-Return ns n l a)

    -- a call with the arguments that it keeps
    abbrev pub Kept_whole : Target → ℕ → List Expr → Type 0
    Kept_whole t i as_ = projected k g (s.Invoke n l t i as_) ≡ renumbered ns (s.Invoke n l t i (chosen_places (k.argument n) 0 as_)) ∷ []

    pub invoke_kept : k.statement n ≡ true → (t : Target) (i : ℕ) (as_ : List Expr) → k.result n ≡ true → Kept_whole t i as_
    invoke_kept kept t i as_ result =
        projected-Invoke k g n l t i as_ ∙ chosen _ (bare_target k g l t) kept ∙ chosen _ _ result ∙ one (renumbered-Invoke ns n l t i (chosen_places (k.argument n) 0 as_))

    pub invoke_alone : k.statement n ≡ true → (i : ℕ) (as_ : List Expr) → Kept_whole to_place.None i as_
    invoke_alone kept i as_ =
        projected-Invoke k g n l to_place.None i as_ ∙ chosen _ (bare_target k g l to_place.None) kept ∙ by_result (k.result n) ∙ one (renumbered-Invoke ns n l to_place.None i (chosen_places (k.argument n) 0 as_))
      where
        by_result : {xs : List Statement} (b : Bool) → if_so b xs xs ≡ xs
        by_result true = refl
        by_result false = refl

    -- ---- what goes, but for what is declared

    pub assign_gone : k.statement n ≡ false → (a : Expr) (op : Option BinaryOp) (b : Expr) → Gone (s.Assign n l a op b)
    assign_gone out a op b = projected-Assign k g n l a op b ∙ unchosen _ [] out

    pub bump_gone : k.statement n ≡ false → (a : Expr) (up before : Bool) → Gone (s.Bump n l a up before)
    bump_gone out a up before = projected-Bump k g n l a up before ∙ unchosen _ [] out

    pub return_gone : k.statement n ≡ false → (a : Option Expr) → Gone (s.Return n l a)
    return_gone out a = projected-Return k g n l a ∙ unchosen _ [] out

    pub heap_gone : k.statement n ≡ false → (t : Target) (cast : Option CType) (m : Amount) → projected k g (s.Heap n l t cast m) ≡ bare_target k g l t
    heap_gone out t cast m = projected-Heap k g n l t cast m ∙ unchosen _ (bare_target k g l t) out

  module _ (raw : RawProgram) (place : Scope) (n l : ℕ) (w : Bytes) (args : List RawArg) where
    -- a call stays whole, where its result is kept or not there
    pub call_whole : (to : Option Target) → k.statement n ≡ true → ((t : Target) (i : ℕ) (as_ : List Expr) → to ≡ Some t → is_library_function w ≡ false → Whole (s.Invoke n l t i as_))
        → (y : Statement) → call_tree raw place n l to w args ≡ Some y → Whole y
    call_whole to kept invoke =
        call_by raw place n l to w args Whole (λ u at h. fetch_whole n l kept u) (λ a h. write_whole n l kept a) (λ text as_ h. print_whole n l kept text as_) (λ a h. release_whole n l kept a) invoke

    -- the trees of the arguments that are kept
    pub args_chosen : (as_ : List Expr) → args_tree raw place args ≡ Some as_ → args_tree raw place (chosen_places (k.argument n) 0 args) ≡ Some (chosen_places (k.argument n) 0 as_)
    args_chosen as_ at =
        ap collected (chosen_map (arg_tree raw place) (k.argument n) 0 args) ∙ chosen_collected (k.argument n) 0 (map (arg_tree raw place) args) as_ at

    -- a call that stays has the tree of the call with the arguments that it keeps
    pub record CallStays (to : Option Target) (some : List RawArg) (y : Statement) : Type 0 where
      pub tree : Statement
      pub there : call_tree raw place n l to w some ≡ Some tree
      pub stays : projected k g y ≡ renumbered ns tree ∷ []

    pub call_stays : (to : Option Target) (some : List RawArg) → (is_library_function w ≡ true → some ≡ args) → (is_library_function w ≡ false → some ≡ chosen_places (k.argument n) 0 args) → k.statement n ≡ true
        → ((t : Target) (i : ℕ) (as_ : List Expr) → to ≡ Some t → is_library_function w ≡ false → Kept_whole n l t i as_)
        → (y : Statement) → call_tree raw place n l to w args ≡ Some y → CallStays to some y
    call_stays to some all left kept invoke y at = by_library (is_library_function w) refl
      where
        by_invoke : is_library_function w ≡ false → (o : Option Target) (i : Option ℕ) (x : Option (List Expr)) → to ≡ o → function_id raw w ≡ i → args_tree raw place args ≡ x → option_and_then (λ (t : Target). both (s.Invoke n l t) i x) o ≡ Some y → CallStays to some y
        by_invoke strange None i x p q r is = none_there is
        by_invoke strange (Some t) None x p q r is = none_there is
        by_invoke strange (Some t) (Some i) None p q r is = none_there is
        by_invoke strange (Some t) (Some i) (Some as_) p q r is = record {
          tree = s.Invoke n l t i (chosen_places (k.argument n) 0 as_);
          there = invoked raw place n l to w some strange ∙ ap₂ (λ (o : Option Target) (x : Option (List Expr)). option_and_then (λ (t : Target). both (s.Invoke n l t) (function_id raw w) x) o) p (ap (args_tree raw place) (left strange) ∙ args_chosen as_ r)
              ∙ ap (λ (j : Option ℕ). both (s.Invoke n l t) j (Some (chosen_places (k.argument n) 0 as_))) q;
          stays = ap (projected k g) (sym (some_same is)) ∙ invoke t i as_ p strange;
        }

        by_library : (b : Bool) → is_library_function w ≡ b → CallStays to some y
        by_library true known = record {
          tree = y;
          there = ap (call_tree raw place n l to w) (all known) ∙ at;
          stays = call_whole to kept (λ t i as_ p strange. false_true (sym strange ∙ known)) y at;
        }
        by_library false strange = by_invoke strange to (function_id raw w) (args_tree raw place args) refl refl refl (sym (invoked raw place n l to w args strange) ∙ at)

    -- what stays of a call that goes is what it declares, where it gives a result
    pub call_gone : (to : Option Target) (zs : List Statement) → k.statement n ≡ false → ((t : Target) → to ≡ Some t → bare_target k g l t ≡ zs) → (is_among without_result w ≡ true → zs ≡ [])
        → (y : Statement) → call_tree raw place n l to w args ≡ Some y → projected k g y ≡ zs
    call_gone to zs out each none =
        call_by raw place n l to w args (λ y. projected k g y ≡ zs)
        (λ u at h. projected-Fetch k g n l u ∙ unchosen _ (bare_target k g l u) out ∙ each u at)
        (λ a h. projected-Write k g n l a ∙ unchosen _ [] out ∙ sym (none h)) (λ text as_ h. projected-Print k g n l text as_ ∙ unchosen _ [] out ∙ sym (none h)) (λ a h. projected-Release k g n l a ∙ unchosen _ [] out ∙ sym (none h))
        (λ u i as_ at h. projected-Invoke k g n l u i as_ ∙ unchosen _ (bare_target k g l u) out ∙ each u at)

  -- a call of a function of the text that loses its result
  pub call_loses : (n m l : ℕ) (t : Target) → m ≡ rank k.statement n → k.statement n ≡ true → k.result n ≡ false → (i i' : Option ℕ) (x x' : Option (List Expr)) → i' ≡ option_map g i
      → ((as_ : List Expr) → x ≡ Some as_ → x' ≡ Some (map (renamed f) (chosen_places (k.argument n) 0 as_)))
      → (y : Statement) → both (s.Invoke n l t) i x ≡ Some y
      → (z : Statement) × (both (s.Invoke m l to_place.None) i' x' ≡ Some z) × (projected k g y ≡ bare_target k g l t ++ (z ∷ []))
  call_loses n m l t num kept lost None i' x x' p q y is = none_there is
  call_loses n m l t num kept lost (Some i) i' None x' p q y is = none_there is
  call_loses n m l t num kept lost (Some i) i' (Some as_) x' p q y is = (
    s.Invoke (rank k.statement n) l to_place.None (g i) (map (renamed f) (chosen_places (k.argument n) 0 as_)),
    ap₂ (both (s.Invoke m l to_place.None)) p (q as_ refl) ∙ ap (λ (j : ℕ). Some (s.Invoke j l to_place.None (g i) (map (renamed f) (chosen_places (k.argument n) 0 as_)))) num,
    ap (projected k g) (sym (some_same is)) ∙ projected-Invoke k g n l t i as_ ∙ chosen _ (bare_target k g l t) kept ∙ unchosen _ _ lost,
  )
