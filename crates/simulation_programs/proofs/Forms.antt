-- The projection of each form of statement, from those of its parts.
use Rattle.std.proofs.Common.{◌≡◌, ℕ, ℤ, List, [], ◌∷◌, ◌++◌, map, Option, None, Bool, true, false, refl, sym, ap, ◌∙◌, eq-eqb, ap₂}
use Rattle.std.specs.Option.{option_to_list}
use Rattle.std.proofs.lemmas.Bool.{false≢true}
use mathlib.Core.Path.{fun_ext}
use Rattle.c_tree.specs.declared.expr.Expr.{Expr}
use Rattle.c_tree.specs.declared.program.Init.TheVariants as init
use Rattle.c_tree.specs.declared.program.Program.{Program}
use Rattle.c_tree.specs.declared.statement.Statement.{Statement}
use Rattle.c_tree.specs.declared.statement.Statement.TheOpen.{Statement-F}
use Rattle.c_tree.specs.declared.statement.Statement.TheVariants as s
use Rattle.c_tree.specs.declared.statement.Target.{Target}
use Rattle.c_tree.specs.declared.statement.Target.TheVariants as target
use Rattle.c_language.specs.Code.{Act, Code, End, Opens, Plain, Fork, Loop, ◌⨟◌, leave, StatementPart, doing, declared_in, in_turn, list_of, block, declaring, given_to, part, either}
use Rattle.c_language.proofs.CodeLemmas.{part_list, block_of}
use Rattle.kept_numbers.specs.Ranks.{rank}
use Rattle.projection.specs.Kept.{Kept}
use Rattle.c_language.specs.Names.{target_names}
use Rattle.projection.specs.Renumbering.{renamed, renamed_target}
use Rattle.projection.specs.Projection as Projection
use Rattle.projection.specs.Projection.{if_so, bare, bare_target, alone}
use Rattle.projection.proofs.NamesPass.{NamesPass}
use Rattle.own_words.proofs.Words.{numbers}
use Rattle.simulation.specs.Places.{kept_target}
use Rattle.simulation_places.specs.ProjectedCode.{renamed_act, renamed_all, project_code, IsNested}
use Rattle.simulation_places.proofs.Projecting.{project_then}
use Rattle.simulation_places.specs.Counterparts.{ranks_of}
use Rattle.simulation_programs.proofs.Sequences.{in_turn-append, declared-append, renamed_all-append, project_leave, nested_then, nested_leave}
use Rattle.simulation_programs.proofs.StatementParts.{gathered, part_form, for_form, part_list-map, alone_is, alone_declares, one_turn, one_declares, begun_turn, begun_declares, split_turn, split_declares}

module _ (p : Program) (k : Kept ℕ) where
  abbrev keeps : ℕ → Bool
  keeps = k.statement

  abbrev vars : ℕ → Bool
  vars = k.variable

  abbrev project : Code → Code
  project = project_code k (ranks_of k)

  -- these statements make the projection of what a statement does, or a list
  pub record Makes (q : StatementPart) (xs : List Statement) : Type 0 where
    pub declares : declared_in (map part xs) ≡ renamed_all k (ranks_of k) q.declares
    pub before : (r : Code) → in_turn (map part xs) (project r) ≡ project (q.before r)
    pub nested : (r : Code) → IsNested k (ranks_of k) r → IsNested k (ranks_of k) (q.before r)

  -- a code's projection is another
  pub record Turns (c d : Code) : Type 0 where
    pub same : project c ≡ d
    pub nested : IsNested k (ranks_of k) c

  -- what a statement puts before a list
  pub record Puts (id : ℕ) (f g : Code → Code) : Type 0 where
    pub same : (r : Code) → project (f r) ≡ either (keeps id) (g (project r)) (project r)
    pub nested : (r : Code) → IsNested k (ranks_of k) r → IsNested k (ranks_of k) (f r)

  -- ---- lists

  pub makes_none : Makes (gathered []) []
  makes_none = record { declares = refl; before = λ r. refl; nested = λ r h. h }

  pub makes_both : (q : StatementPart) (ss : List StatementPart) (xs ys : List Statement) → Makes q xs → Makes (gathered ss) ys → Makes (gathered (q ∷ ss)) (xs ++ ys)
  makes_both q ss xs ys h g = record {
    declares = declared-append xs ys ∙ ap₂ (λ m n. m ++ n) h.declares g.declares ∙ sym (renamed_all-append k q.declares (declared_in ss));
    before = λ r. in_turn-append xs ys (project r) ∙ (ap (in_turn (map part xs)) (g.before r) ∙ h.before (in_turn ss r));
    nested = λ r n. h.nested (in_turn ss r) (g.nested r n);
  }

  pub turns_list : (ss : List StatementPart) (xs : List Statement) → Makes (gathered ss) xs → Turns (list_of ss) (list_of (map part xs))
  turns_list ss xs h = record { same = sym (h.before End); nested = h.nested End tt }

  pub turns_block : (ss : List StatementPart) (xs : List Statement) → Makes (gathered ss) xs → Turns (block ss) (block (map part xs))
  turns_block ss xs h = record {
    same = sym (h.before (leave (declared_in ss) End)) ∙ ap (in_turn (map part xs)) (project_leave k (declared_in ss) End ∙ ap (λ ns. leave ns End) (sym h.declares));
    nested = h.nested (leave (declared_in ss) End) (nested_leave k (declared_in ss) End tt);
  }

  pub turns_then : (a b c d : Code) → Turns a c → Turns b d → Turns (a ⨟ b) (c ⨟ d)
  turns_then a b c d h g = record {
    same = project_then k (ranks_of k) a b ∙ ap₂ (λ x y. x ⨟ y) h.same g.same;
    nested = nested_then k a b h.nested g.nested;
  }

  -- ---- what is kept as a whole

  pub makes_one : (id : ℕ) (x : Statement) (f g : Code → Code) → part x ≡ doing g → Puts id f g → Makes (doing f) (if_so (keeps id) (x ∷ []) [])
  makes_one id x f g is h = record {
    declares = one_declares (keeps id) x g is;
    before = λ r. one_turn (keeps id) x g (project r) is ∙ sym (h.same r);
    nested = h.nested;
  }

  bare_form : (l y : ℕ) → part (s.Declare None l y init.None) ≡ declaring y (Opens y)
  bare_form l y = part_form (s.Declare None l y init.None) (Statement-F.Declare None l y init.None) (s.rolls-Declare None l y init.None)

  pub makes_begun : (b : Bool) (l y : ℕ) (x : Statement) (f g : Code → Code) → part x ≡ declaring (rank vars y) (λ r. Opens (rank vars y) (g r)) → (b ≡ true → vars y ≡ true)
      → ((r : Code) → project (f r) ≡ either b (g (project r)) (project r)) → ((r : Code) → IsNested k (ranks_of k) r → IsNested k (ranks_of k) (f r))
      → Makes (declaring y (λ r. Opens y (f r))) (if_so b (x ∷ []) (bare k (numbers p k) l y))
  makes_begun b l y x f g is stay same nested = record {
    declares = begun_declares b (vars y) x (s.Declare None l (rank vars y) init.None) (rank vars y) (λ r. Opens (rank vars y) (g r)) is (bare_form l (rank vars y)) stay;
    before = λ r. begun_turn b (vars y) x (s.Declare None l (rank vars y) init.None) (rank vars y) g (project r) is (bare_form l (rank vars y)) stay ∙ sym (ap (λ c. either (vars y) (Opens (rank vars y) c) c) (same r));
    nested = nested;
  }

  -- the bare declaration alone
  pub makes_bare : (l y : ℕ) → Makes (declaring y (Opens y)) (bare k (numbers p k) l y)
  makes_bare l y =
      makes_begun false l y (s.Declare None l (rank vars y) init.None) (λ r. r) (λ r. r) (bare_form l (rank vars y)) (λ h. absurd (false≢true h)) (λ r. refl) (λ r h. h)

  -- a call whose result goes somewhere
  pub makes_given : (id l : ℕ) (to : Target) (x : Statement) (f g : Code → Code) → part x ≡ given_to (renamed_target (rank vars) to) g → (keeps id ≡ true → NamesPass (target_names to) vars) → Puts id f g
      → Makes (given_to to f) (if_so (keeps id) (x ∷ []) (bare_target k (numbers p k) l to))
  makes_given id l target.None x f g is n h = makes_one id x f g is h
  makes_given id l (target.Place e) x f g is n h = makes_one id x f g is h
  makes_given id l (target.Declared y) x f g is n h = makes_begun (keeps id) l y x f g is (λ kept. n kept y (eq-eqb y y refl)) h.same h.nested

  -- ---- a call, which keeps its left side or not

  -- of a call that keeps nothing of what it declares, the declaration stays where the variable does
  makes_split : (id l y : ℕ) (x : Statement) (f g : Code → Code) → part x ≡ doing g → Puts id f g
      → Makes (declaring y (λ r. Opens y (f r))) (if_so (keeps id) (bare k (numbers p k) l y ++ (x ∷ [])) (bare k (numbers p k) l y))
  makes_split id l y x f g is h = record {
    declares = split_declares (keeps id) (vars y) x (s.Declare None l (rank vars y) init.None) (rank vars y) g is (bare_form l (rank vars y));
    before = λ r. split_turn (keeps id) (vars y) x (s.Declare None l (rank vars y) init.None) (rank vars y) g (project r) is (bare_form l (rank vars y)) ∙ sym (ap (λ c. either (vars y) (Opens (rank vars y) c) c) (h.same r));
    nested = h.nested;
  }

  pub makes_call : (b : Bool) (id l : ℕ) (to : Target) (x : Target → Statement) (f : Code → Code) (g : Target → Code → Code) → ((t : Target) → part (x t) ≡ given_to t (g t)) → (b ≡ true → keeps id ≡ true → NamesPass (target_names to) vars) → Puts id f (g (kept_target b (renamed_target (rank vars) to)))
      → Makes (given_to to f) (if_so (keeps id) (if_so b (x (renamed_target (rank vars) to) ∷ []) (bare_target k (numbers p k) l to ++ (x target.None ∷ []))) (bare_target k (numbers p k) l to))
  makes_call true id l to x f g is n h = makes_given id l to (x (renamed_target (rank vars) to)) f (g (renamed_target (rank vars) to)) (is (renamed_target (rank vars) to)) (n refl) h
  makes_call false id l target.None x f g is n h = makes_one id (x target.None) f (g target.None) (is target.None) h
  makes_call false id l (target.Place e) x f g is n h = makes_one id (x target.None) f (g target.None) (is target.None) h
  makes_call false id l (target.Declared y) x f g is n h = makes_split id l y (x target.None) f (g target.None) (is target.None) h

  -- ---- what each form puts before a list

  pub puts_act : (id : ℕ) (a : Act) → Puts id (Plain id a) (Plain (rank keeps id) (renamed_act (rank vars) a))
  puts_act id a = record { same = λ r. refl; nested = λ r h. h }

  pub puts_fork : (id : ℕ) (e : Expr) (c d : ℤ → Code) → ((v : ℤ) → Turns (c v) (d v)) → (keeps id ≡ false → (v : ℤ) → d v ≡ End) → Puts id (Fork id e c) (Fork (rank keeps id) (renamed (rank vars) e) d)
  puts_fork id e c d h ends = record {
    same = λ r. ap (λ m. either (keeps id) (Fork (rank keeps id) (renamed (rank vars) e) m (project r)) (project r)) (fun_ext (λ v. (h v).same));
    nested = λ r n. (λ f v. (h v).same ∙ ends f v, ((λ v. (h v).nested), n));
  }

  pub puts_loop : (id : ℕ) (e : Expr) (c d : Code) → Turns c d → (keeps id ≡ false → d ≡ End) → Puts id (Loop id e c) (Loop (rank keeps id) (renamed (rank vars) e) d)
  puts_loop id e c d h ends = record {
    same = λ r. ap (λ m. either (keeps id) (Loop (rank keeps id) (renamed (rank vars) e) m (project r)) (project r)) h.same;
    nested = λ r n. (λ f. h.same ∙ ends f, (h.nested, n));
  }

  chosen_then : (b : Bool) (d x y : Code) → (b ≡ false → d ≡ End) → d ⨟ either b x y ≡ either b (d ⨟ x) y
  chosen_then true d x y ends = refl
  chosen_then false d x y ends = ap (λ c. c ⨟ y) (ends refl)

  pub puts_do : (id : ℕ) (e : Expr) (c d : Code) → Turns c d → (keeps id ≡ false → d ≡ End) → Puts id (λ r. c ⨟ Loop id e c r) (λ r. d ⨟ Loop (rank keeps id) (renamed (rank vars) e) d r)
  puts_do id e c d h ends =
      let turn = puts_loop id e c d h ends in
      record {
        same = λ r. project_then k (ranks_of k) c (Loop id e c r) ∙ ap₂ (λ x y. x ⨟ y) h.same (turn.same r) ∙ chosen_then (keeps id) d (Loop (rank keeps id) (renamed (rank vars) e) d (project r)) (project r) ends;
        nested = λ r n. nested_then k c (Loop id e c r) h.nested (turn.nested r n);
      }

  -- ---- a for

  for_turn : (b : Bool) (l : ℕ) (x : Statement) (i : Option Statement) (f : Code → Code) (r : Code) → part x ≡ doing (λ c. list_of (part_list i) ⨟ f (leave (declared_in (part_list i)) c))
      → in_turn (map part (if_so b (x ∷ []) (alone l i))) r ≡ list_of (part_list i) ⨟ either b (f (leave (declared_in (part_list i)) r)) (leave (declared_in (part_list i)) r)
  for_turn true l x i f r is = ap (λ (q : StatementPart). q.before r) is
  for_turn false l x i f r is = alone_is k (numbers p k) l i r

  for_declares : (b : Bool) (l : ℕ) (x : Statement) (i : Option Statement) (f : Code → Code) → part x ≡ doing f → declared_in (map part (if_so b (x ∷ []) (alone l i))) ≡ []
  for_declares true l x i f is = ap (λ (q : StatementPart). q.declares ++ []) is
  for_declares false l x i f is = alone_declares k (numbers p k) l i

  pub makes_for : (id l : ℕ) (ss : List StatementPart) (i : Option Statement) (e : Expr) (step : Option Statement) (b : List Statement) (c : Code) → Makes (gathered ss) (option_to_list i) → Turns c (block_of b ⨟ list_of (part_list step)) → (keeps id ≡ false → block_of b ⨟ list_of (part_list step) ≡ End)
      → Makes (doing (λ r. list_of ss ⨟ Loop id e c (leave (declared_in ss) r))) (if_so (keeps id) (s.For (rank keeps id) l i (renamed (rank vars) e) step b ∷ []) (alone l i))
  makes_for id l ss i e step b c first body ends =
      let d : Code = block_of b ⨟ list_of (part_list step) in
      let begins = turns_list ss (option_to_list i) first in
      let turn = puts_loop id e c d body ends in
      let form = for_form (rank keeps id) l i (renamed (rank vars) e) step b in
      let lists = part_list-map i in
      record {
        declares = for_declares (keeps id) l _ i _ form;
        before = λ r. for_turn (keeps id) l (s.For (rank keeps id) l i (renamed (rank vars) e) step b) i (Loop (rank keeps id) (renamed (rank vars) e) d) (project r) form
            ∙ ap₂ (λ x y. x ⨟ either (keeps id) (Loop (rank keeps id) (renamed (rank vars) e) d y) y) (ap list_of (sym lists) ∙ sym begins.same) (ap (λ ps. leave (declared_in ps) (project r)) (sym lists) ∙ ap (λ ns. leave ns (project r)) first.declares ∙ sym (project_leave k (declared_in ss) r))
            ∙ ap (λ y. project (list_of ss) ⨟ y) (sym (turn.same (leave (declared_in ss) r)))
            ∙ sym (project_then k (ranks_of k) (list_of ss) (Loop id e c (leave (declared_in ss) r)));
        nested = λ r n. nested_then k (list_of ss) (Loop id e c (leave (declared_in ss) r)) begins.nested (turn.nested (leave (declared_in ss) r) (nested_leave k (declared_in ss) r n));
      }

  -- ---- a block, which stays where something in it does

  block_turn : (l : ℕ) (xs : List Statement) (r : Code) → in_turn (map part (Projection.block_of l xs)) r ≡ block_of xs ⨟ r
  block_turn l [] r = refl
  block_turn l (x ∷ xs) r = ap (λ (q : StatementPart). q.before r) (part_form (s.Block l (x ∷ xs)) (Statement-F.Block l (x ∷ xs)) (s.rolls-Block l (x ∷ xs)))

  block_declares : (l : ℕ) (xs : List Statement) → declared_in (map part (Projection.block_of l xs)) ≡ []
  block_declares l [] = refl
  block_declares l (x ∷ xs) = ap (λ (q : StatementPart). q.declares ++ []) (part_form (s.Block l (x ∷ xs)) (Statement-F.Block l (x ∷ xs)) (s.rolls-Block l (x ∷ xs)))

  pub makes_block : (l : ℕ) (ss : List StatementPart) (xs : List Statement) → Makes (gathered ss) xs → Makes (doing (λ r. block ss ⨟ r)) (Projection.block_of l xs)
  makes_block l ss xs h =
      let inside = turns_block ss xs h in
      record {
        declares = block_declares l xs;
        before = λ r. block_turn l xs (project r) ∙ ap (λ c. c ⨟ project r) (sym inside.same) ∙ sym (project_then k (ranks_of k) (block ss) r);
        nested = λ r n. nested_then k (block ss) r inside.nested n;
      }
