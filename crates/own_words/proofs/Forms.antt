-- What stays of a kept statement, form by form: a statement with the same line, and with the words that are kept.
use Rattle.std.proofs.Common.{◌≡◌, ◌==◌, ℕ, List, [], ◌∷◌, ◌++◌, map, Option, Some, None, Bool, true, false, ◌&&◌, ◌||◌, codes, refl, sym, ap, ◌∙◌, eq-eqb, ap₂, subst}
use Rattle.std.specs.Prelude.{option_map}
use Rattle.std.proofs.lemmas.Bool.{or_left, and_from}
use Rattle.c_tree.specs.declared.expr.Expr.{Expr}
use Rattle.c_tree.specs.declared.program.Program.{Program}
use Rattle.c_tree.specs.declared.statement.Arm.{Arm, fold-Arm}
use Rattle.c_tree.specs.declared.statement.Statement.{Statement, out-Statement, roll-Statement, map-Statement, fold-Statement, fold-roll-Statement}
use Rattle.c_tree.specs.declared.statement.Statement.TheViews.{roll-out-Statement, out-roll-Statement}
use Rattle.c_tree.specs.declared.statement.Statement.TheOpen.{Statement-F, Arm-F}
use Rattle.c_tree.specs.declared.statement.Statement.TheVariants as s
use Rattle.c_tree.specs.declared.statement.Target.{Target}
use Rattle.c_tree.specs.declared.statement.Target.TheVariants as target
use Rattle.c_tree.specs.declared.numbered.Start.{Start}
use Rattle.c_tree.specs.Numbered.{start, layer_start, StandsIn}
use Rattle.c_tree.specs.Numbered.StandsIn.{here}
use Rattle.c_tree.proofs.SearchLemmas.{stands_right}
use Rattle.c_language.specs.Words.{Bytes, assign_sign, name_of_function, expr_words}
use Rattle.c_language.specs.Layout.{init_words, var_words, target_words, amount_words, cast_words, call_words, bump_words, return_words, Laid, statement_step, arm_step, laid, statement_words, arm_laid}
use Rattle.c_language.proofs.Options.{none_there, some_same}
use Rattle.kept_numbers.specs.Ranks.{rank}
use Rattle.projection.specs.Kept.{Kept, chosen as chosen_places}
use Rattle.c_language.specs.Names.{names, any_names, init_names, target_names, amount_names, value_names}
use Rattle.projection.specs.Names.{refers_step, refers, arm_refers}
use Rattle.projection.specs.Renumbering.{renamed, renamed_init, renamed_target, renamed_amount}
use Rattle.projection.specs.Projection.{if_so, first_statement, bare_target, called, projected_step, projected, projected_arm, projected_all}
use Rattle.projection.proofs.NamesPass.{NamesPass, left_pass, right_pass}
use Rattle.own_words.specs.OwnWords.{layer_words, own_words, left_side, layer_kept, kept_part, words_kept}
use Rattle.own_words.proofs.Lists.{three}
use Rattle.own_words.proofs.Words.{staying, ranked, numbers, smaller, var_words_same, expr_says, all_say, function_same, cast_same, init_says, target_says, amount_says, return_says}
use Rattle.c_scope_laws.proofs.TreeLevels.{chosen}

-- a fold of a statement is one of its layer
pub fold_layer : (A B : Type 0) (step : Statement-F A B → A) (arm : Arm-F A B → B) (x : Statement) → fold-Statement A B step arm x ≡ step (map-Statement Statement Arm A B (fold-Statement A B step arm) (fold-Arm A B step arm) (out-Statement x))
fold_layer A B step arm x =
    ap (fold-Statement A B step arm) (sym (roll-out-Statement x)) ∙ fold-roll-Statement A B step arm (out-Statement x)

-- ---- words

-- the own words of a layer
abbrev pub text : Program → Statement-F Statement Arm → Bytes
text q (Statement-F.Declare id l x i) = var_words q x ++ init_words q i
text q (Statement-F.Assign id l a op b) = expr_words q a ++ (codes " " ++ (assign_sign op ++ (codes " " ++ expr_words q b)))
text q (Statement-F.Bump id l a up before) = bump_words (expr_words q a) up before
text q (Statement-F.Invoke id l to f args) = target_words q to ++ call_words (name_of_function q f) (map (expr_words q) args)
text q (Statement-F.Fetch id l to) = target_words q to ++ codes "getchar()"
text q (Statement-F.Write id l a) = call_words (codes "putchar") (expr_words q a ∷ [])
text q (Statement-F.Print id l format args) = call_words (codes "printf") (format ∷ map (expr_words q) args)
text q (Statement-F.Heap id l to cast n) = target_words q to ++ (cast_words q cast ++ call_words (codes "malloc") (amount_words q n ∷ []))
text q (Statement-F.Release id l a) = call_words (codes "free") (expr_words q a ∷ [])
text q (Statement-F.If id l e a b) = codes "if (" ++ (expr_words q e ++ codes ")")
text q (Statement-F.While id l e b) = codes "while (" ++ (expr_words q e ++ codes ")")
text q (Statement-F.Do id l e b) = codes "do while (" ++ (expr_words q e ++ codes ")")
text q (Statement-F.For id l i e step b) = codes "for (; " ++ (expr_words q e ++ codes ";)")
text q (Statement-F.Switch id l e arms) = codes "switch (" ++ (expr_words q e ++ codes ")")
text q (Statement-F.Block l b) = []
text q (Statement-F.Return id l a) = return_words q a

-- the variables that they name
abbrev pub layer_names : Statement-F Statement Arm → ℕ → Bool
layer_names (Statement-F.Declare id l x i) v = (x == v) || init_names i v
layer_names (Statement-F.Assign id l a op b) v = names a v || names b v
layer_names (Statement-F.Bump id l a up before) v = names a v
layer_names (Statement-F.Invoke id l to f args) v = target_names to v || any_names args v
layer_names (Statement-F.Fetch id l to) v = target_names to v
layer_names (Statement-F.Write id l a) v = names a v
layer_names (Statement-F.Print id l format args) v = any_names args v
layer_names (Statement-F.Heap id l to cast n) v = target_names to v || amount_names n v
layer_names (Statement-F.Release id l a) v = names a v
layer_names (Statement-F.If id l e a b) v = names e v
layer_names (Statement-F.While id l e b) v = names e v
layer_names (Statement-F.Do id l e b) v = names e v
layer_names (Statement-F.For id l i e step b) v = names e v
layer_names (Statement-F.Switch id l e arms) v = names e v
layer_names (Statement-F.Block l b) v = false
layer_names (Statement-F.Return id l a) v = value_names a v

module _ (q : Program) (x : Statement) where
  laid_words : (z : Statement-F Statement Arm) → out-Statement x ≡ z → statement_words q x ≡ (statement_step q (map-Statement Statement Arm Laid (ℕ → Bytes) (laid q) (arm_laid q) z)).words
  laid_words z is =
      ap (λ (w : Laid). w.words) (fold_layer Laid (ℕ → Bytes) (statement_step q) (arm_step q) x) ∙ ap (λ y. (statement_step q (map-Statement Statement Arm Laid (ℕ → Bytes) (laid q) (arm_laid q) y)).words) is

  layer_text : (z : Statement-F Statement Arm) → out-Statement x ≡ z → layer_words q x z ≡ text q z
  layer_text (Statement-F.Declare id l y i) is = laid_words (Statement-F.Declare id l y i) is
  layer_text (Statement-F.Assign id l a op b) is = laid_words (Statement-F.Assign id l a op b) is
  layer_text (Statement-F.Bump id l a up before) is = laid_words (Statement-F.Bump id l a up before) is
  layer_text (Statement-F.Invoke id l to f args) is = laid_words (Statement-F.Invoke id l to f args) is
  layer_text (Statement-F.Fetch id l to) is = laid_words (Statement-F.Fetch id l to) is
  layer_text (Statement-F.Write id l a) is = laid_words (Statement-F.Write id l a) is
  layer_text (Statement-F.Print id l format args) is = laid_words (Statement-F.Print id l format args) is
  layer_text (Statement-F.Heap id l to cast n) is = laid_words (Statement-F.Heap id l to cast n) is
  layer_text (Statement-F.Release id l a) is = laid_words (Statement-F.Release id l a) is
  layer_text (Statement-F.If id l e a b) is = laid_words (Statement-F.If id l e a b) is
  layer_text (Statement-F.While id l e b) is = laid_words (Statement-F.While id l e b) is
  layer_text (Statement-F.Do id l e b) is = laid_words (Statement-F.Do id l e b) is
  layer_text (Statement-F.For id l i e step b) is = refl
  layer_text (Statement-F.Switch id l e arms) is = laid_words (Statement-F.Switch id l e arms) is
  layer_text (Statement-F.Block l b) is = laid_words (Statement-F.Block l b) is
  layer_text (Statement-F.Return id l a) is = laid_words (Statement-F.Return id l a) is

  -- the own words of a statement are those of its layer
  pub own_text : own_words q x ≡ text q (out-Statement x)
  own_text = layer_text (out-Statement x) refl

-- ---- what is kept

module _ (k : Kept ℕ) where
  -- the layer of what is kept of a statement
  abbrev pub kept_layer : Statement-F Statement Arm → Statement-F Statement Arm
  kept_layer (Statement-F.Invoke id l to f args) = Statement-F.Invoke id l (left_side (k.result id) to) f (chosen_places (k.argument id) 0 args)
  kept_layer z = z

  out_kept : (x : Statement) (z : Statement-F Statement Arm) → out-Statement x ≡ z → out-Statement (layer_kept k x z) ≡ kept_layer z
  out_kept x (Statement-F.Declare id l y i) is = is
  out_kept x (Statement-F.Assign id l a op b) is = is
  out_kept x (Statement-F.Bump id l a up before) is = is
  out_kept x (Statement-F.Invoke id l to f args) is =
      ap out-Statement (sym (s.rolls-Invoke id l (left_side (k.result id) to) f (chosen_places (k.argument id) 0 args))) ∙ out-roll-Statement (Statement-F.Invoke id l (left_side (k.result id) to) f (chosen_places (k.argument id) 0 args))
  out_kept x (Statement-F.Fetch id l to) is = is
  out_kept x (Statement-F.Write id l a) is = is
  out_kept x (Statement-F.Print id l format args) is = is
  out_kept x (Statement-F.Heap id l to cast n) is = is
  out_kept x (Statement-F.Release id l a) is = is
  out_kept x (Statement-F.If id l e a b) is = is
  out_kept x (Statement-F.While id l e b) is = is
  out_kept x (Statement-F.Do id l e b) is = is
  out_kept x (Statement-F.For id l i e step b) is = is
  out_kept x (Statement-F.Switch id l e arms) is = is
  out_kept x (Statement-F.Block l b) is = is
  out_kept x (Statement-F.Return id l a) is = is

  -- the words that are kept of a statement
  pub kept_text : (q : Program) (x : Statement) → own_words q (kept_part k x) ≡ text q (kept_layer (out-Statement x))
  kept_text q x = own_text q (kept_part k x) ∙ ap (text q) (out_kept x (out-Statement x) refl)

-- ---- what stays

module _ (p : Program) (k : Kept ℕ) where
  abbrev pub left : Statement → List Statement
  left = projected k (numbers p k)

  abbrev pub arm_left : Arm → Arm
  arm_left = projected_arm k (numbers p k)

  abbrev pub all_left : List Statement → List Statement
  all_left = projected_all k (numbers p k)

  abbrev new : Expr → Expr
  new = renamed (ranked p k)

  abbrev pub part_left : Option Statement → Option Statement
  part_left None = None
  part_left (Some x) = first_statement (left x)

  -- the layer of what stays of a kept statement
  abbrev pub left_layer : Statement-F Statement Arm → Statement-F Statement Arm
  left_layer (Statement-F.Declare id l x i) = Statement-F.Declare (option_map (rank k.statement) id) l (ranked p k x) (renamed_init (ranked p k) i)
  left_layer (Statement-F.Assign id l a op b) = Statement-F.Assign (rank k.statement id) l (new a) op (new b)
  left_layer (Statement-F.Bump id l a up before) = Statement-F.Bump (rank k.statement id) l (new a) up before
  left_layer (Statement-F.Invoke id l to f args) = Statement-F.Invoke (rank k.statement id) l (renamed_target (ranked p k) (left_side (k.result id) to)) (numbers p k f) (map new (chosen_places (k.argument id) 0 args))
  left_layer (Statement-F.Fetch id l to) = Statement-F.Fetch (rank k.statement id) l (renamed_target (ranked p k) to)
  left_layer (Statement-F.Write id l a) = Statement-F.Write (rank k.statement id) l (new a)
  left_layer (Statement-F.Print id l format args) = Statement-F.Print (rank k.statement id) l format (map new args)
  left_layer (Statement-F.Heap id l to cast n) = Statement-F.Heap (rank k.statement id) l (renamed_target (ranked p k) to) cast (renamed_amount (ranked p k) n)
  left_layer (Statement-F.Release id l a) = Statement-F.Release (rank k.statement id) l (new a)
  left_layer (Statement-F.If id l e a b) = Statement-F.If (rank k.statement id) l (new e) (all_left a) (all_left b)
  left_layer (Statement-F.While id l e b) = Statement-F.While (rank k.statement id) l (new e) (all_left b)
  left_layer (Statement-F.Do id l e b) = Statement-F.Do (rank k.statement id) l (new e) (all_left b)
  left_layer (Statement-F.For id l i e step b) = Statement-F.For (rank k.statement id) l (part_left i) (new e) (part_left step) (all_left b)
  left_layer (Statement-F.Switch id l e arms) = Statement-F.Switch (rank k.statement id) l (new e) (map arm_left arms)
  left_layer (Statement-F.Block l b) = Statement-F.Block l (all_left b)
  left_layer (Statement-F.Return id l a) = Statement-F.Return (rank k.statement id) l (option_map new a)

  abbrev pub step_left : Statement-F Statement Arm → List Statement
  step_left z = projected_step k (numbers p k) (map-Statement Statement Arm (List Statement) Arm left arm_left z)

  pub same_kept : (id l i n : ℕ) → ◌≡◌ {A = Option Start} (Some (start id l)) (Some (start i n)) → k.statement i ≡ true → k.statement id ≡ true
  same_kept id l i n is h = ap (λ (t : Start). k.statement t.id) (some_same is) ∙ h

  -- what is left of it is this statement, behind others or not
  stands_at : {x y : Statement} (xs : List Statement) {ws : List Statement} → ws ≡ xs ++ (x ∷ []) → x ≡ y → StandsIn ws y
  stands_at {x} {y} xs is same = subst (λ ws. StandsIn ws y) (sym (is ∙ ap (λ z. xs ++ (z ∷ [])) same)) (stands_right xs here)

  called_is : (r : Bool) (id l : ℕ) (to : Target) (f : ℕ) (args : List Expr)
      → StandsIn (if_so r (called k (numbers p k) id l (renamed_target (ranked p k) to) f args ∷ []) (bare_target k (numbers p k) l to ++ (called k (numbers p k) id l target.None f args ∷ []))) (roll-Statement (Statement-F.Invoke (rank k.statement id) l (renamed_target (ranked p k) (left_side r to)) (numbers p k f) (map new (chosen_places (k.argument id) 0 args))))
  called_is true id l to f args = stands_at [] refl (sym (s.rolls-Invoke _ _ _ _ _))
  called_is false id l to f args = stands_at (bare_target k (numbers p k) l to) refl (sym (s.rolls-Invoke _ _ _ _ _))

  -- what is left of a kept statement holds one with its rank
  pub left_is : (z : Statement-F Statement Arm) (i n : ℕ) → layer_start z ≡ Some (start i n) → k.statement i ≡ true → StandsIn (step_left z) (roll-Statement (left_layer z))
  left_is (Statement-F.Declare None l x a) i n is h = none_there is
  left_is (Statement-F.Declare (Some id) l x a) i n is h = stands_at [] (chosen _ _ (same_kept id l i n is h)) (sym (s.rolls-Declare _ _ _ _))
  left_is (Statement-F.Assign id l a op b) i n is h = stands_at [] (chosen _ _ (same_kept id l i n is h)) (sym (s.rolls-Assign _ _ _ _ _))
  left_is (Statement-F.Bump id l a up before) i n is h = stands_at [] (chosen _ _ (same_kept id l i n is h)) (sym (s.rolls-Bump _ _ _ _ _))
  left_is (Statement-F.Invoke id l to f args) i n is h =
      subst (λ ws. StandsIn ws (roll-Statement (left_layer (Statement-F.Invoke id l to f args)))) (sym (chosen _ _ (same_kept id l i n is h))) (called_is (k.result id) id l to f args)
  left_is (Statement-F.Fetch id l to) i n is h = stands_at [] (chosen _ _ (same_kept id l i n is h)) (sym (s.rolls-Fetch _ _ _))
  left_is (Statement-F.Write id l a) i n is h = stands_at [] (chosen _ _ (same_kept id l i n is h)) (sym (s.rolls-Write _ _ _))
  left_is (Statement-F.Print id l format args) i n is h = stands_at [] (chosen _ _ (same_kept id l i n is h)) (sym (s.rolls-Print _ _ _ _))
  left_is (Statement-F.Heap id l to cast m) i n is h = stands_at [] (chosen _ _ (same_kept id l i n is h)) (sym (s.rolls-Heap _ _ _ _ _))
  left_is (Statement-F.Release id l a) i n is h = stands_at [] (chosen _ _ (same_kept id l i n is h)) (sym (s.rolls-Release _ _ _))
  left_is (Statement-F.If id l e a b) i n is h = stands_at [] (chosen _ _ (same_kept id l i n is h)) (sym (s.rolls-If _ _ _ _ _))
  left_is (Statement-F.While id l e b) i n is h = stands_at [] (chosen _ _ (same_kept id l i n is h)) (sym (s.rolls-While _ _ _ _))
  left_is (Statement-F.Do id l e b) i n is h = stands_at [] (chosen _ _ (same_kept id l i n is h)) (sym (s.rolls-Do _ _ _ _))
  left_is (Statement-F.For id l None e None b) i n is h = stands_at [] (chosen _ _ (same_kept id l i n is h)) (sym (s.rolls-For _ _ _ _ _ _))
  left_is (Statement-F.For id l None e (Some step) b) i n is h = stands_at [] (chosen _ _ (same_kept id l i n is h)) (sym (s.rolls-For _ _ _ _ _ _))
  left_is (Statement-F.For id l (Some a) e None b) i n is h = stands_at [] (chosen _ _ (same_kept id l i n is h)) (sym (s.rolls-For _ _ _ _ _ _))
  left_is (Statement-F.For id l (Some a) e (Some step) b) i n is h = stands_at [] (chosen _ _ (same_kept id l i n is h)) (sym (s.rolls-For _ _ _ _ _ _))
  left_is (Statement-F.Switch id l e arms) i n is h = stands_at [] (chosen _ _ (same_kept id l i n is h)) (sym (s.rolls-Switch _ _ _ _))
  left_is (Statement-F.Block l b) i n is h = none_there is
  left_is (Statement-F.Return id l a) i n is h = stands_at [] (chosen _ _ (same_kept id l i n is h)) (sym (s.rolls-Return _ _ _))

  abbrev pub ranked_start : Start → Start
  ranked_start t = start (rank k.statement t.id) t.line

  -- its number is the rank, its line the same
  pub left_start : (z : Statement-F Statement Arm) → layer_start (left_layer z) ≡ option_map ranked_start (layer_start z)
  left_start (Statement-F.Declare None l y i) = refl
  left_start (Statement-F.Declare (Some id) l y i) = refl
  left_start (Statement-F.Assign id l a op b) = refl
  left_start (Statement-F.Bump id l a up before) = refl
  left_start (Statement-F.Invoke id l to f args) = refl
  left_start (Statement-F.Fetch id l to) = refl
  left_start (Statement-F.Write id l a) = refl
  left_start (Statement-F.Print id l format args) = refl
  left_start (Statement-F.Heap id l to cast n) = refl
  left_start (Statement-F.Release id l a) = refl
  left_start (Statement-F.If id l e a b) = refl
  left_start (Statement-F.While id l e b) = refl
  left_start (Statement-F.Do id l e b) = refl
  left_start (Statement-F.For id l i e step b) = refl
  left_start (Statement-F.Switch id l e arms) = refl
  left_start (Statement-F.Block l b) = refl
  left_start (Statement-F.Return id l a) = refl

  abbrev Passes : (ℕ → Bool) → Type 0
  Passes named = NamesPass named (staying p k)

  -- a function stays that a kept call calls
  abbrev pub CalledStays : Statement-F Statement Arm → Type 0
  CalledStays (Statement-F.Invoke id l to f args) = k.statement id ≡ true → k.function f ≡ true
  CalledStays z = Unit {0}

  -- its words are those that are kept, where all that they name stays
  pub left_text : (z : Statement-F Statement Arm) (i n : ℕ) → layer_start z ≡ Some (start i n) → k.statement i ≡ true → CalledStays z → Passes (layer_names (kept_layer k z)) → text (smaller p k) (left_layer z) ≡ text p (kept_layer k z)
  left_text (Statement-F.Declare id l x a) i n is t c h =
      ap₂ (λ v w. v ++ w) (var_words_same p k x (left_pass (λ v. x == v) (init_names a) h x (eq-eqb x x refl))) (init_says p k a (right_pass (λ v. x == v) (init_names a) h))
  left_text (Statement-F.Assign id l a op b) i n is t c h =
      ap₂ (λ v w. v ++ (codes " " ++ (assign_sign op ++ (codes " " ++ w)))) (expr_says p k a (left_pass (names a) (names b) h)) (expr_says p k b (right_pass (names a) (names b) h))
  left_text (Statement-F.Bump id l a up before) i n is t c h = ap (λ w. bump_words w up before) (expr_says p k a h)
  left_text (Statement-F.Invoke id l to f args) i n is t c h =
      let side = left_side (k.result id) to in
      let given = chosen_places (k.argument id) 0 args in
      three (λ u v w. u ++ call_words v w) (target_says p k side (left_pass (target_names side) (any_names given) h)) (function_same p k f (c (same_kept id l i n is t))) (all_say p k given (right_pass (target_names side) (any_names given) h))
  left_text (Statement-F.Fetch id l to) i n is t c h = ap (λ w. w ++ codes "getchar()") (target_says p k to h)
  left_text (Statement-F.Write id l a) i n is t c h = ap (λ w. call_words (codes "putchar") (w ∷ [])) (expr_says p k a h)
  left_text (Statement-F.Print id l format args) i n is t c h = ap (λ ws. call_words (codes "printf") (format ∷ ws)) (all_say p k args h)
  left_text (Statement-F.Heap id l to cast m) i n is t c h =
      three (λ u v w. u ++ (v ++ call_words (codes "malloc") (w ∷ []))) (target_says p k to (left_pass (target_names to) (amount_names m) h)) (cast_same p k cast) (amount_says p k m (right_pass (target_names to) (amount_names m) h))
  left_text (Statement-F.Release id l a) i n is t c h = ap (λ w. call_words (codes "free") (w ∷ [])) (expr_says p k a h)
  left_text (Statement-F.If id l e a b) i n is t c h = ap (λ w. codes "if (" ++ (w ++ codes ")")) (expr_says p k e h)
  left_text (Statement-F.While id l e b) i n is t c h = ap (λ w. codes "while (" ++ (w ++ codes ")")) (expr_says p k e h)
  left_text (Statement-F.Do id l e b) i n is t c h = ap (λ w. codes "do while (" ++ (w ++ codes ")")) (expr_says p k e h)
  left_text (Statement-F.For id l first e step b) i n is t c h = ap (λ w. codes "for (; " ++ (w ++ codes ";)")) (expr_says p k e h)
  left_text (Statement-F.Switch id l e arms) i n is t c h = ap (λ w. codes "switch (" ++ (w ++ codes ")")) (expr_says p k e h)
  left_text (Statement-F.Block l b) i n is t c h = refl
  left_text (Statement-F.Return id l a) i n is t c h = return_says p k a h

  abbrev pub step_refers : Statement-F Statement Arm → ℕ → Bool
  step_refers z = refers_step (words_kept k) (map-Statement Statement Arm (ℕ → Bool) (ℕ → Bool) (refers (words_kept k)) (arm_refers (words_kept k)) z)

  sided : (r : Bool) (to : Target) (v : ℕ) (rest : Bool) → (target_names (left_side r to) v || rest) ≡ true → ((r && target_names to v) || rest) ≡ true
  sided true to v rest m = m
  sided false to v rest m = m

  -- a kept statement refers to what the words that it keeps name
  pub own_refers : (z : Statement-F Statement Arm) (i n : ℕ) → layer_start z ≡ Some (start i n) → k.statement i ≡ true → (v : ℕ) → layer_names (kept_layer k z) v ≡ true → step_refers z v ≡ true
  own_refers (Statement-F.Declare None l x a) i n is h v m = none_there is
  own_refers (Statement-F.Declare (Some id) l x a) i n is h v m = and_from _ _ (same_kept id l i n is h) m
  own_refers (Statement-F.Assign id l a op b) i n is h v m = and_from _ _ (same_kept id l i n is h) m
  own_refers (Statement-F.Bump id l a up before) i n is h v m = and_from _ _ (same_kept id l i n is h) m
  own_refers (Statement-F.Invoke id l to f args) i n is h v m = and_from _ _ (same_kept id l i n is h) (sided (k.result id) to v (any_names (chosen_places (k.argument id) 0 args) v) m)
  own_refers (Statement-F.Fetch id l to) i n is h v m = and_from _ _ (same_kept id l i n is h) m
  own_refers (Statement-F.Write id l a) i n is h v m = and_from _ _ (same_kept id l i n is h) m
  own_refers (Statement-F.Print id l format args) i n is h v m = and_from _ _ (same_kept id l i n is h) m
  own_refers (Statement-F.Heap id l to cast count) i n is h v m = and_from _ _ (same_kept id l i n is h) m
  own_refers (Statement-F.Release id l a) i n is h v m = and_from _ _ (same_kept id l i n is h) m
  own_refers (Statement-F.If id l e a b) i n is h v m = or_left (k.statement id && names e v) _ (and_from _ _ (same_kept id l i n is h) m)
  own_refers (Statement-F.While id l e b) i n is h v m = or_left (k.statement id && names e v) _ (and_from _ _ (same_kept id l i n is h) m)
  own_refers (Statement-F.Do id l e b) i n is h v m = or_left (k.statement id && names e v) _ (and_from _ _ (same_kept id l i n is h) m)
  own_refers (Statement-F.For id l first e step b) i n is h v m = or_left (k.statement id && names e v) _ (and_from _ _ (same_kept id l i n is h) m)
  own_refers (Statement-F.Switch id l e arms) i n is h v m = or_left (k.statement id && names e v) _ (and_from _ _ (same_kept id l i n is h) m)
  own_refers (Statement-F.Block l b) i n is h v m = none_there is
  own_refers (Statement-F.Return id l a) i n is h v m = and_from _ _ (same_kept id l i n is h) m
