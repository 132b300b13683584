-- Where a kept statement stands, what stays of it stands in the projection.
use Rattle.std.proofs.Common.{◌≡◌, ℕ, List, [], ◌∷◌, ◌++◌, map, Some, None, Bool, true, false, ◌&&◌, ◌||◌, inl, inr, refl, sym, ap, ◌∙◌, subst}
use Rattle.std.specs.Prelude.{option_map, slice_get}
use Rattle.std.specs.List.{list_all}
use Rattle.std.proofs.lemmas.Bool.{or_left, or_right}
use Rattle.c_tree.specs.declared.expr.Expr.{Expr}
use Rattle.c_tree.specs.declared.program.Function.{Function}
use Rattle.c_tree.specs.declared.program.Program.{Program}
use Rattle.c_tree.specs.declared.statement.Arm.{Arm}
use Rattle.c_tree.specs.declared.statement.Statement.{Statement, out-Statement, roll-Statement, map-Statement}
use Rattle.c_tree.specs.declared.statement.Statement.TheViews.{out-roll-Statement}
use Rattle.c_tree.specs.declared.statement.Statement.TheOpen.{Statement-F}
use Rattle.c_tree.specs.declared.statement.Statement.TheVariants as s
use Rattle.c_tree.specs.declared.numbered.Start.{Start}
use Rattle.c_tree.specs.Numbered.{start, arms_inner, layer_inner, inner, layer_start, own_start, StandsIn, StandsInProgram}
use Rattle.c_tree.specs.Numbered.StandsIn.{here, inside, later}
use Rattle.c_tree.proofs.SearchLemmas.{stands_left, stands_right, own_of}
use Rattle.c_tree.proofs.LayerLemmas.{inner-If, inner-While, inner-Do, inner-For, inner-Switch}
use Rattle.c_language.proofs.Options.{none_there}
use Rattle.kept_numbers.specs.Ranks.{rank}
use Rattle.projection.specs.Kept.{Kept}
use Rattle.c_language.specs.Names.{names}
use Rattle.projection.specs.Names.{any_of, refers_step, refers_arm, refers, arm_refers, body_refers}
use Rattle.projection.specs.Renumbering.{renamed}
use Rattle.projection.specs.Projection.{first_statement, alone, projected_step, projected_arm_step, projected_function}
use Rattle.projection_laws.specs.Nested.{Nest, any_kept, all_fit, nest_step, nest_arm, nest, arm_nest, is_nested}
use Rattle.own_words.specs.OwnWords.{own_words, words_kept, splits, layer_parts, for_parts, kept_part, HangsTogether, KeepsWords}
use Rattle.own_words.proofs.Lists.{Among, among_split, among_contains, contains_among, contained_at, all_hold, any_holds}
use Rattle.own_words.proofs.Lists.Among.{first, next}
use Rattle.own_words.proofs.Names.{function_stays}
use Rattle.own_words.proofs.Words.{numbers, ranked, smaller}
use Rattle.own_words.proofs.Forms.{fold_layer, text, own_text, kept_text, left, arm_left, all_left, left_layer, step_left, same_kept, left_is, ranked_start, left_start, CalledStays, left_text, step_refers, own_refers}
use Rattle.own_words.proofs.Parts.{among_none, in_alone, in_block, Holds, holds_under, holds_begun, holds_repeated, holds_first, holds_second, in_list, in_arms, in_part, of_part}

module _ (p : Program) (k : Kept ℕ) where
  abbrev new : Expr → Expr
  new = renamed (ranked p k)

  abbrev step_nest : Statement-F Statement Arm → Nest
  step_nest z = nest_step k.statement (map-Statement Statement Arm Nest Nest (nest k.statement) (arm_nest k.statement) z)

  -- ---- what stands in a statement, form by form

  abbrev LayerHolds : Statement-F Statement Arm → Statement → Type 0
  LayerHolds z x = Holds p k (step_nest z).keeps (step_nest z).fits (step_refers p k z) (step_left p k z) x

  -- of lists
  abbrev any_keeps : List Statement → Bool
  any_keeps b = any_kept (map (nest k.statement) b)

  abbrev all_fits : List Statement → Bool
  all_fits b = all_fit (map (nest k.statement) b)

  abbrev any_refers : List Statement → ℕ → Bool
  any_refers b = any_of (map (refers (words_kept k)) b)

  abbrev stay : List Statement → List Statement
  stay = all_left p k

  abbrev own : ℕ → Expr → ℕ → Bool
  own id e v = k.statement id && names e v

  abbrev none : ℕ → Bool
  none v = false

  -- the step of a for, and its body
  stepped : (step : Statement) (b : List Statement) (x : Statement) → splits k step ≡ false → Among (step ∷ b) x → Holds p k ((nest k.statement step).keeps || any_keeps b) ((nest k.statement step).fits && all_fits b) (λ v. refers (words_kept k) step v || any_refers b v) (of_part p k step ++ stay b) x
  stepped step b x whole h = elim (among_split (step ∷ []) h) [
    | inl m ↦ holds_first p k (nest k.statement step).keeps (nest k.statement step).fits (any_keeps b) (all_fits b) (refers (words_kept k) step) (any_refers b) (of_part p k step) (stay b) x (in_part p k step x whole m)
    | inr m ↦ holds_second p k (nest k.statement step).keeps (nest k.statement step).fits (any_keeps b) (all_fits b) (refers (words_kept k) step) (any_refers b) (of_part p k step) (stay b) x (in_list p k b m)
  ]

  layer_holds : (z : Statement-F Statement Arm) (x : Statement) → ((part : Statement) → Among (layer_parts z) part → splits k part ≡ false) → Among (layer_inner z) x → LayerHolds z x
  layer_holds (Statement-F.Declare id l y i) x whole h = among_none h
  layer_holds (Statement-F.Assign id l a op b) x whole h = among_none h
  layer_holds (Statement-F.Bump id l a up before) x whole h = among_none h
  layer_holds (Statement-F.Invoke id l to f args) x whole h = among_none h
  layer_holds (Statement-F.Fetch id l to) x whole h = among_none h
  layer_holds (Statement-F.Write id l a) x whole h = among_none h
  layer_holds (Statement-F.Print id l format args) x whole h = among_none h
  layer_holds (Statement-F.Heap id l to cast n) x whole h = among_none h
  layer_holds (Statement-F.Release id l a) x whole h = among_none h
  layer_holds (Statement-F.Return id l a) x whole h = among_none h
  layer_holds (Statement-F.If id l e a b) x whole h =
      holds_under p k id (own id e) (any_keeps a || any_keeps b) (all_fits a && all_fits b) (λ v. any_refers a v || any_refers b v) (stay a ++ stay b) (s.If (rank k.statement id) l (new e) (stay a) (stay b)) x (inner-If (rank k.statement id) l (new e) (stay a) (stay b)) (elim (among_split a h) [
        | inl m ↦ holds_first p k (any_keeps a) (all_fits a) (any_keeps b) (all_fits b) (any_refers a) (any_refers b) (stay a) (stay b) x (in_list p k a m)
        | inr m ↦ holds_second p k (any_keeps a) (all_fits a) (any_keeps b) (all_fits b) (any_refers a) (any_refers b) (stay a) (stay b) x (in_list p k b m)
      ])
  layer_holds (Statement-F.While id l e b) x whole h =
      holds_under p k id (own id e) (any_keeps b) (all_fits b) (any_refers b) (stay b) (s.While (rank k.statement id) l (new e) (stay b)) x (inner-While (rank k.statement id) l (new e) (stay b)) (in_list p k b h)
  layer_holds (Statement-F.Do id l e b) x whole h =
      holds_under p k id (own id e) (any_keeps b) (all_fits b) (any_refers b) (stay b) (s.Do (rank k.statement id) l (new e) (stay b)) x (inner-Do (rank k.statement id) l (new e) (stay b)) (in_list p k b h)
  layer_holds (Statement-F.Switch id l e arms) x whole h =
      holds_under p k id (own id e) (any_kept (map (arm_nest k.statement) arms)) (all_fit (map (arm_nest k.statement) arms)) (any_of (map (arm_refers (words_kept k)) arms)) (arms_inner (map (arm_left p k) arms)) (s.Switch (rank k.statement id) l (new e) (map (arm_left p k) arms)) x (inner-Switch (rank k.statement id) l (new e) (map (arm_left p k) arms)) (in_arms p k arms x h)
  layer_holds (Statement-F.Block l b) x whole h =
      let inner_one = in_list p k b h in record { keeps_it = inner_one.keeps_it; fits_it = inner_one.fits_it; names_it = inner_one.names_it; stands_it = λ c g y r. in_block p k l (stay b) y (inner_one.stands_it c g y r) }
  layer_holds (Statement-F.For id l None e None b) x whole h =
      holds_repeated p k id (own id e) false true (any_keeps b) (all_fits b) none (any_refers b) [] (stay b) [] (s.For (rank k.statement id) l None (new e) None (stay b)) x (inner-For (rank k.statement id) l None (new e) None (stay b)) (in_list p k b h)
  layer_holds (Statement-F.For id l None e (Some step) b) x whole h =
      holds_repeated p k id (own id e) false true ((nest k.statement step).keeps || any_keeps b) ((nest k.statement step).fits && all_fits b) none (λ v. refers (words_kept k) step v || any_refers b v) [] (of_part p k step ++ stay b) [] (s.For (rank k.statement id) l None (new e) (first_statement (left p k step)) (stay b)) x (inner-For (rank k.statement id) l None (new e) (first_statement (left p k step)) (stay b)) (stepped step b x (whole step first) h)
  layer_holds (Statement-F.For id l (Some i) e None b) x whole h = elim (among_split (i ∷ []) h) [
    | inl m ↦ holds_begun p k id (own id e) (nest k.statement i).keeps (nest k.statement i).fits (any_keeps b) (all_fits b) (refers (words_kept k) i) (any_refers b) (of_part p k i) (stay b) (alone l (first_statement (left p k i))) (s.For (rank k.statement id) l (first_statement (left p k i)) (new e) None (stay b)) x (inner-For (rank k.statement id) l (first_statement (left p k i)) (new e) None (stay b)) (in_alone p k l (first_statement (left p k i))) (in_part p k i x (whole i first) m)
    | inr m ↦ holds_repeated p k id (own id e) (nest k.statement i).keeps (nest k.statement i).fits (any_keeps b) (all_fits b) (refers (words_kept k) i) (any_refers b) (of_part p k i) (stay b) (alone l (first_statement (left p k i))) (s.For (rank k.statement id) l (first_statement (left p k i)) (new e) None (stay b)) x (inner-For (rank k.statement id) l (first_statement (left p k i)) (new e) None (stay b)) (in_list p k b m)
  ]
  layer_holds (Statement-F.For id l (Some i) e (Some step) b) x whole h = elim (among_split (i ∷ []) h) [
    | inl m ↦ holds_begun p k id (own id e) (nest k.statement i).keeps (nest k.statement i).fits ((nest k.statement step).keeps || any_keeps b) ((nest k.statement step).fits && all_fits b) (refers (words_kept k) i) (λ v. refers (words_kept k) step v || any_refers b v) (of_part p k i) (of_part p k step ++ stay b) (alone l (first_statement (left p k i))) (s.For (rank k.statement id) l (first_statement (left p k i)) (new e) (first_statement (left p k step)) (stay b)) x (inner-For (rank k.statement id) l (first_statement (left p k i)) (new e) (first_statement (left p k step)) (stay b)) (in_alone p k l (first_statement (left p k i))) (in_part p k i x (whole i first) m)
    | inr m ↦ holds_repeated p k id (own id e) (nest k.statement i).keeps (nest k.statement i).fits ((nest k.statement step).keeps || any_keeps b) ((nest k.statement step).fits && all_fits b) (refers (words_kept k) i) (λ v. refers (words_kept k) step v || any_refers b v) (of_part p k i) (of_part p k step ++ stay b) (alone l (first_statement (left p k i))) (s.For (rank k.statement id) l (first_statement (left p k i)) (new e) (first_statement (left p k step)) (stay b)) x (inner-For (rank k.statement id) l (first_statement (left p k i)) (new e) (first_statement (left p k step)) (stay b)) (stepped step b x (whole step (next first)) m)
  ]

  abbrev StatementHolds : Statement → Statement → Type 0
  StatementHolds outer x = Holds p k (nest k.statement outer).keeps (nest k.statement outer).fits (refers (words_kept k) outer) (left p k outer) x

  nest_is : (x : Statement) → nest k.statement x ≡ step_nest (out-Statement x)
  nest_is x = fold_layer Nest Nest (nest_step k.statement) (nest_arm k.statement) x

  refers_is : (x : Statement) → refers (words_kept k) x ≡ step_refers p k (out-Statement x)
  refers_is x = fold_layer (ℕ → Bool) (ℕ → Bool) (refers_step (words_kept k)) (refers_arm (words_kept k)) x

  left_out : (x : Statement) → left p k x ≡ step_left p k (out-Statement x)
  left_out x =
      fold_layer (List Statement) Arm (projected_step k (numbers p k)) (projected_arm_step k (numbers p k)) x

  statement_holds : (outer x : Statement) → ((part : Statement) → Among (for_parts outer) part → splits k part ≡ false) → Among (inner outer) x → StatementHolds outer x
  statement_holds outer x whole h =
      subst (λ (m : Nest). Holds p k m.keeps m.fits (refers (words_kept k) outer) (left p k outer) x) (sym (nest_is outer))
      (subst (λ (n : ℕ → Bool). Holds p k (step_nest (out-Statement outer)).keeps (step_nest (out-Statement outer)).fits n (left p k outer) x) (sym (refers_is outer))
      (subst (λ (ws : List Statement). Holds p k (step_nest (out-Statement outer)).keeps (step_nest (out-Statement outer)).fits (step_refers p k (out-Statement outer)) ws x) (sym (left_out outer)) (layer_holds (out-Statement outer) x whole h)))

  -- ---- lists

  -- one of the list, in which the statement stands
  record Holder (xs : List Statement) (x y : Statement) : Type 0 where
    pub one : Statement
    pub among : Among xs one
    pub keeps_it : (nest k.statement one).keeps ≡ true
    pub names_it : (v : ℕ) → refers (words_kept k) x v ≡ true → refers (words_kept k) one v ≡ true
    pub stands_it : (nest k.statement one).fits ≡ true → StandsIn (left p k one) y

  -- the parts of a for that stand in a list become one statement or none
  abbrev PartsStay : List Statement → Type 0
  PartsStay xs = (outer part : Statement) → StandsIn xs outer → Among (for_parts outer) part → splits k part ≡ false

  holder : {xs : List Statement} {x : Statement} → PartsStay xs → StandsIn xs x → (y : Statement) → (nest k.statement x).keeps ≡ true → StandsIn (left p k x) y → Holder xs x y
  holder whole (here {one}) y c r = record { one = one; among = first; keeps_it = c; names_it = λ v h. h; stands_it = λ f. r }
  holder whole (inside {outer} h) y c r =
      let w = holder (λ o part s. whole o part (inside s)) h y c r in let u = statement_holds outer w.one (λ part. whole outer part here) w.among in
      record { one = outer; among = first; keeps_it = u.keeps_it w.keeps_it; names_it = λ v n. u.names_it v (w.names_it v n); stands_it = λ f. u.stands_it w.keeps_it f y (w.stands_it (u.fits_it f)) }
  holder whole (later h) y c r =
      let w = holder (λ o part s. whole o part (later s)) h y c r in record { one = w.one; among = next w.among; keeps_it = w.keeps_it; names_it = w.names_it; stands_it = w.stands_it }

  left_among : {xs : List Statement} {x y : Statement} → Among xs x → StandsIn (left p k x) y → StandsIn (stay xs) y
  left_among (first {x} {rest}) h = stands_left h (stay rest)
  left_among (next {y} {x} {rest} m) h = stands_right (left p k y) (left_among m h)

  body_refers_to : {xs : List Statement} {x : Statement} → Among xs x → (v : ℕ) → refers (words_kept k) x v ≡ true → body_refers (words_kept k) xs v ≡ true
  body_refers_to (first {x} {rest}) v h = or_left (refers (words_kept k) x v) (body_refers (words_kept k) rest v) h
  body_refers_to (next {y} {x} {rest} m) v h = or_right (refers (words_kept k) y v) (body_refers (words_kept k) rest v) (body_refers_to m v h)

  -- ---- a kept statement

  layer_keeps : (z : Statement-F Statement Arm) (i n : ℕ) → layer_start z ≡ Some (start i n) → k.statement i ≡ true → (step_nest z).keeps ≡ true
  layer_keeps (Statement-F.Declare None l y a) i n is h = none_there is
  layer_keeps (Statement-F.Declare (Some id) l y a) i n is h = same_kept p k id l i n is h
  layer_keeps (Statement-F.Assign id l a op b) i n is h = same_kept p k id l i n is h
  layer_keeps (Statement-F.Bump id l a up before) i n is h = same_kept p k id l i n is h
  layer_keeps (Statement-F.Invoke id l to f args) i n is h = same_kept p k id l i n is h
  layer_keeps (Statement-F.Fetch id l to) i n is h = same_kept p k id l i n is h
  layer_keeps (Statement-F.Write id l a) i n is h = same_kept p k id l i n is h
  layer_keeps (Statement-F.Print id l format args) i n is h = same_kept p k id l i n is h
  layer_keeps (Statement-F.Heap id l to cast m) i n is h = same_kept p k id l i n is h
  layer_keeps (Statement-F.Release id l a) i n is h = same_kept p k id l i n is h
  layer_keeps (Statement-F.Return id l a) i n is h = same_kept p k id l i n is h
  layer_keeps (Statement-F.If id l e a b) i n is h = or_left (k.statement id) _ (same_kept p k id l i n is h)
  layer_keeps (Statement-F.While id l e b) i n is h = or_left (k.statement id) _ (same_kept p k id l i n is h)
  layer_keeps (Statement-F.Do id l e b) i n is h = or_left (k.statement id) _ (same_kept p k id l i n is h)
  layer_keeps (Statement-F.For id l begun e step b) i n is h = or_left (k.statement id) _ (same_kept p k id l i n is h)
  layer_keeps (Statement-F.Switch id l e arms) i n is h = or_left (k.statement id) _ (same_kept p k id l i n is h)
  layer_keeps (Statement-F.Block l b) i n is h = none_there is

  -- what stays of a kept statement
  abbrev stayed : Statement → Statement
  stayed x = roll-Statement (left_layer p k (out-Statement x))

  stayed_start : (x : Statement) → own_start (stayed x) ≡ option_map (ranked_start p k) (own_start x)
  stayed_start x =
      ap layer_start (out-roll-Statement (left_layer p k (out-Statement x))) ∙ left_start p k (out-Statement x)

  stayed_words : (x : Statement) (i n : ℕ) → own_start x ≡ Some (start i n) → k.statement i ≡ true → CalledStays p k (out-Statement x) → ((v : ℕ) → refers (words_kept k) x v ≡ true → k.variable v ≡ true) → own_words (smaller p k) (stayed x) ≡ own_words p (kept_part k x)
  stayed_words x i n is h calls named =
      own_text (smaller p k) (stayed x) ∙ ap (text (smaller p k)) (out-roll-Statement (left_layer p k (out-Statement x))) ∙ left_text p k (out-Statement x) i n is h calls (λ v m. named v (ap (λ (r : ℕ → Bool). r v) (refers_is x) ∙ own_refers p k (out-Statement x) i n is h v m)) ∙ sym (kept_text k p x)

  -- the function that a kept call calls stays
  called_stays : HangsTogether p k → (x : Statement) → StandsInProgram p x → (z : Statement-F Statement Arm) → out-Statement x ≡ z → CalledStays p k z
  called_stays h x s (Statement-F.Declare id l y i) is = tt
  called_stays h x s (Statement-F.Assign id l a op b) is = tt
  called_stays h x s (Statement-F.Bump id l a up before) is = tt
  called_stays h x s (Statement-F.Invoke id l to f args) is = λ c. h.called id l f to args x s is c
  called_stays h x s (Statement-F.Fetch id l to) is = tt
  called_stays h x s (Statement-F.Write id l a) is = tt
  called_stays h x s (Statement-F.Print id l format args) is = tt
  called_stays h x s (Statement-F.Heap id l to cast n) is = tt
  called_stays h x s (Statement-F.Release id l a) is = tt
  called_stays h x s (Statement-F.If id l e a b) is = tt
  called_stays h x s (Statement-F.While id l e b) is = tt
  called_stays h x s (Statement-F.Do id l e b) is = tt
  called_stays h x s (Statement-F.For id l i e step b) is = tt
  called_stays h x s (Statement-F.Switch id l e arms) is = tt
  called_stays h x s (Statement-F.Block l b) is = tt
  called_stays h x s (Statement-F.Return id l a) is = tt

  -- where what is kept hangs together, each kept statement has its own words in the projection
  pub keeps_words : HangsTogether p k → KeepsWords p k
  keeps_words together i x numbered h =
      let f = numbered.stands.function in
      let at = numbered.stands.defined in
      let there : slice_get p.functions at.0 ≡ Some f = contained_at p.functions f at.0 at.1 at.2 in
      let among : Among p.functions f = contains_among p.functions f at in
      let begun = own_of i (own_start x) numbered.number in
      let starts_it : own_start x ≡ Some (start i begun.0) = begun.1 in
      let keeps_it : (nest k.statement x).keeps ≡ true = ap (λ (m : Nest). m.keeps) (nest_is x) ∙ layer_keeps (out-Statement x) i begun.0 starts_it h in
      let stands_itself : StandsIn (left p k x) (stayed x) = subst (λ ws. StandsIn ws (stayed x)) (sym (left_out x)) (left_is p k (out-Statement x) i begun.0 starts_it h) in
      let whole : PartsStay f.body = λ outer part s m. together.parts outer part (record { function = f; defined = at; stands = s }) (among_contains m) in
      let w = holder whole numbered.stands.stands (stayed x) keeps_it stands_itself in
      let body_fits : list_all (is_nested k.statement) f.body ≡ true = all_hold (λ (g : Function). list_all (is_nested k.statement) g.body) among together.nested in
      let found : StandsIn (stay f.body) (stayed x) = left_among w.among (w.stands_it (all_hold (is_nested k.statement) w.among body_fits)) in
      let named : (v : ℕ) → refers (words_kept k) x v ≡ true → k.variable v ≡ true = λ v r. together.variables v (any_holds (λ (g : Function). body_refers (words_kept k) g.body v) among (body_refers_to w.among v (w.names_it v r))) in
      let begins : own_start (stayed x) ≡ Some (start (rank k.statement i) begun.0) = stayed_start x ∙ ap (option_map (ranked_start p k)) starts_it in
      let function_kept : k.function at.0 ≡ true = together.functions at.0 i f x there numbered.stands.stands numbered.number h in
      record {
        statement = stayed x;
        numbered = record {
          number = ap (option_map (λ (t : Start). t.id)) begins;
          stands = record { function = projected_function k (numbers p k) at.0 f; defined = among_contains (function_stays k p.functions at.0 f there function_kept); stands = found };
        };
        line = ap (option_map (λ (t : Start). t.line)) begins ∙ sym (ap (option_map (λ (t : Start). t.line)) starts_it);
        words = stayed_words x i begun.0 starts_it h (called_stays together x numbered.stands (out-Statement x) refl) named;
      }
