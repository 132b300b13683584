-- What stands in a statement or in a list, by what is known of one of its parts.
use Rattle.std.proofs.Common.{◌≡◌, ℕ, List, [], ◌∷◌, ◌++◌, map, Option, Some, None, Bool, true, false, ◌&&◌, ◌||◌, not, inl, inr, refl, sym, subst}
use Rattle.std.specs.Option.{option_to_list}
use Rattle.std.proofs.lemmas.Bool.{and_parts, or_left, or_right}
use Rattle.c_tree.specs.declared.program.Program.{Program}
use Rattle.c_tree.specs.declared.statement.Arm.{Arm, out-Arm, fold_out-Arm}
use Rattle.c_tree.specs.declared.statement.Statement.{Statement, out-Statement}
use Rattle.c_tree.specs.declared.statement.Statement.TheOpen.{Statement-F}
use Rattle.c_tree.specs.declared.statement.Statement.TheVariants as s
use Rattle.c_tree.specs.declared.statement.Target.{Target}
use Rattle.c_tree.specs.declared.statement.Target.TheVariants as target
use Rattle.c_tree.specs.Numbered.{arms_inner, inner, StandsIn}
use Rattle.c_tree.specs.Numbered.StandsIn.{inside}
use Rattle.c_tree.proofs.LayerLemmas.{inner-Block}
use Rattle.c_tree.proofs.SearchLemmas.{stands_left, stands_right}
use Rattle.projection.specs.Kept.{Kept}
use Rattle.projection.specs.Names.{any_of, refers_step, refers_arm, refers, arm_refers}
use Rattle.projection.specs.Projection.{if_so, first_statement, is_declaring, bare, bare_target, alone, block_of, projected_step, projected_arm_step}
use Rattle.projection_laws.specs.Nested.{Nest, any_kept, all_fit, governs, nest_step, nest_arm, nest, arm_nest}
use Rattle.projection_laws.proofs.StandsNested.{governs_back}
use Rattle.own_words.proofs.Lists.{Among, among_split}
use Rattle.own_words.proofs.Lists.Among.{first, next}
use Rattle.own_words.specs.OwnWords.{words_kept, target_stays, layer_splits, splits}
use Rattle.own_words.proofs.Words.{numbers}
use Rattle.own_words.proofs.Forms.{fold_layer, left, arm_left, all_left, step_left}
use Rattle.c_language.proofs.Tests.{by_answer}
use Rattle.c_scope_laws.proofs.TreeLevels.{chosen, unchosen}

pub among_none : {X A : Type 0} {x : X} → Among [] x → A
among_none h = elim h [ ]

among_one : {X : Type 0} {x y : X} → Among (x ∷ []) y → x ≡ y
among_one first = refl
among_one (next h) = among_none h

stands_none : {A : Type 0} {y : Statement} → StandsIn [] y → A
stands_none h = elim h [ ]

-- ---- lists of one or none

abbrev IsShort : List Statement → Type 0
IsShort xs = option_to_list (first_statement xs) ≡ xs

short_so : (b : Bool) (x : Statement) (xs : List Statement) → IsShort xs → IsShort (if_so b (x ∷ []) xs)
short_so true x xs h = refl
short_so false x xs h = h

module _ (p : Program) (k : Kept ℕ) where
  short_alone : (l : ℕ) (o : Option Statement) → IsShort (alone l o)
  short_alone l None = refl
  short_alone l (Some x) = short_so (is_declaring x) (s.Block l (x ∷ [])) (x ∷ []) refl

  short_block : (l : ℕ) (xs : List Statement) → IsShort (block_of l xs)
  short_block l [] = refl
  short_block l (x ∷ xs) = refl

  pub in_block : (l : ℕ) (xs : List Statement) (y : Statement) → StandsIn xs y → StandsIn (block_of l xs) y
  in_block l [] y h = stands_none h
  in_block l (x ∷ xs) y h = inside (subst (λ zs. StandsIn zs y) (sym (inner-Block l (x ∷ xs))) h)

  in_chosen : (l : ℕ) (x y : Statement) (b : Bool) → StandsIn (x ∷ []) y → StandsIn (if_so b (s.Block l (x ∷ []) ∷ []) (x ∷ [])) y
  in_chosen l x y true h = in_block l (x ∷ []) y h
  in_chosen l x y false h = h

  pub in_alone : (l : ℕ) (o : Option Statement) (y : Statement) → StandsIn (option_to_list o) y → StandsIn (alone l o) y
  in_alone l None y h = h
  in_alone l (Some x) y h = in_chosen l x y (is_declaring x) h

  short_bare : (l x : ℕ) → IsShort (bare k (numbers p k) l x)
  short_bare l x = short_so (k.variable x) _ [] refl

  short_target : (l : ℕ) (t : Target) → IsShort (bare_target k (numbers p k) l t)
  short_target l target.None = refl
  short_target l (target.Place a) = refl
  short_target l (target.Declared x) = short_bare l x

  -- of a call that isn't split, one or none
  short_invoke : (kept result : Bool) (l : ℕ) (to : Target) (x y : Statement) → (kept && (not result && target_stays k to)) ≡ false
      → IsShort (if_so kept (if_so result (x ∷ []) (bare_target k (numbers p k) l to ++ (y ∷ []))) (bare_target k (numbers p k) l to))
  short_invoke false result l to x y h = short_target l to
  short_invoke true true l to x y h = refl
  short_invoke true false l target.None x y h = refl
  short_invoke true false l (target.Place a) x y h = refl
  short_invoke true false l (target.Declared v) x y h = subst (λ ws. IsShort (ws ++ (y ∷ []))) (sym (unchosen _ _ h)) refl

  short_layer : (z : Statement-F Statement Arm) → layer_splits k z ≡ false → IsShort (step_left p k z)
  short_layer (Statement-F.Declare None l x a) h = short_bare l x
  short_layer (Statement-F.Declare (Some id) l x a) h = short_so (k.statement id) _ _ (short_bare l x)
  short_layer (Statement-F.Assign id l a op b) h = short_so (k.statement id) _ [] refl
  short_layer (Statement-F.Bump id l a up before) h = short_so (k.statement id) _ [] refl
  short_layer (Statement-F.Invoke id l to f args) h = short_invoke (k.statement id) (k.result id) l to _ _ h
  short_layer (Statement-F.Fetch id l to) h = short_so (k.statement id) _ _ (short_target l to)
  short_layer (Statement-F.Write id l a) h = short_so (k.statement id) _ [] refl
  short_layer (Statement-F.Print id l format args) h = short_so (k.statement id) _ [] refl
  short_layer (Statement-F.Heap id l to cast n) h = short_so (k.statement id) _ _ (short_target l to)
  short_layer (Statement-F.Release id l a) h = short_so (k.statement id) _ [] refl
  short_layer (Statement-F.If id l e a b) h = short_so (k.statement id) _ [] refl
  short_layer (Statement-F.While id l e b) h = short_so (k.statement id) _ [] refl
  short_layer (Statement-F.Do id l e b) h = short_so (k.statement id) _ [] refl
  short_layer (Statement-F.For id l None e step b) h = short_so (k.statement id) _ [] refl
  short_layer (Statement-F.For id l (Some a) e step b) h = short_so (k.statement id) _ _ (short_alone l (first_statement (left p k a)))
  short_layer (Statement-F.Switch id l e arms) h = short_so (k.statement id) _ [] refl
  short_layer (Statement-F.Block l b) h = short_block l (all_left p k b)
  short_layer (Statement-F.Return id l a) h = short_so (k.statement id) _ [] refl

  -- of a statement that isn't split one or none stays
  pub short : (x : Statement) → splits k x ≡ false → IsShort (left p k x)
  short x h =
      subst IsShort (sym (fold_layer (List Statement) Arm (projected_step k (numbers p k)) (projected_arm_step k (numbers p k)) x)) (short_layer (out-Statement x) h)

  -- ---- what is known of a whole by one of its parts

  -- the whole is kept where something of the part is, it fits only where the part does, it refers to what the part does, and what stands in what stays of the part stands in what stays of the whole
  pub record Holds (holds fits : Bool) (named : ℕ → Bool) (whole : List Statement) (part : Statement) : Type 0 where
    pub keeps_it : (nest k.statement part).keeps ≡ true → holds ≡ true
    pub fits_it : fits ≡ true → (nest k.statement part).fits ≡ true
    pub names_it : (v : ℕ) → refers (words_kept k) part v ≡ true → named v ≡ true
    pub stands_it : (nest k.statement part).keeps ≡ true → fits ≡ true → (y : Statement) → StandsIn (left p k part) y → StandsIn whole y

  holds_itself : (x : Statement) → Holds (nest k.statement x).keeps (nest k.statement x).fits (refers (words_kept k) x) (left p k x) x
  holds_itself x = record { keeps_it = λ h. h; fits_it = λ h. h; names_it = λ v h. h; stands_it = λ c f y h. h }

  pub holds_first : (a e b f : Bool) (m n : ℕ → Bool) (xs ys : List Statement) (x : Statement) → Holds a e m xs x → Holds (a || b) (e && f) (λ v. m v || n v) (xs ++ ys) x
  holds_first a e b f m n xs ys x h = record {
    keeps_it = λ c. or_left a b (h.keeps_it c);
    fits_it = λ g. h.fits_it (and_parts e f g).0;
    names_it = λ v r. or_left (m v) (n v) (h.names_it v r);
    stands_it = λ c g y r. stands_left (h.stands_it c (and_parts e f g).0 y r) ys;
  }

  pub holds_second : (a e b f : Bool) (m n : ℕ → Bool) (xs ys : List Statement) (x : Statement) → Holds b f n ys x → Holds (a || b) (e && f) (λ v. m v || n v) (xs ++ ys) x
  holds_second a e b f m n xs ys x h = record {
    keeps_it = λ c. or_right a b (h.keeps_it c);
    fits_it = λ g. h.fits_it (and_parts e f g).1;
    names_it = λ v r. or_right (m v) (n v) (h.names_it v r);
    stands_it = λ c g y r. stands_right xs (h.stands_it c (and_parts e f g).1 y r);
  }

  -- what stands in an if, a loop or a switch
  pub holds_under : (id : ℕ) (own : ℕ → Bool) (a e : Bool) (m : ℕ → Bool) (xs : List Statement) (outer x : Statement) → inner outer ≡ xs → Holds a e m xs x → Holds (k.statement id || a) (governs (k.statement id) a && e) (λ v. own v || m v) (if_so (k.statement id) (outer ∷ []) []) x
  holds_under id own a e m xs outer x is h = record {
    keeps_it = λ c. or_right (k.statement id) a (h.keeps_it c);
    fits_it = λ g. h.fits_it (and_parts (governs (k.statement id) a) e g).1;
    names_it = λ v r. or_right (own v) (m v) (h.names_it v r);
    stands_it = λ c g y r. let both = and_parts (governs (k.statement id) a) e g in subst (λ zs. StandsIn zs y) (sym (chosen (outer ∷ []) [] (governs_back (k.statement id) a both.0 (h.keeps_it c)))) (inside (subst (λ zs. StandsIn zs y) (sym is) (h.stands_it c both.1 y r)));
  }

  -- what a for begins with
  pub holds_begun : (id : ℕ) (own : ℕ → Bool) (a e b f : Bool) (m n : ℕ → Bool) (xs ys zs : List Statement) (outer x : Statement) → inner outer ≡ xs ++ ys → ((y : Statement) → StandsIn xs y → StandsIn zs y) → Holds a e m xs x
      → Holds (k.statement id || (a || b)) (governs (k.statement id) b && (e && f)) (λ v. own v || (m v || n v)) (if_so (k.statement id) (outer ∷ []) zs) x
  holds_begun id own a e b f m n xs ys zs outer x is bare_in h = record {
    keeps_it = λ c. or_right (k.statement id) (a || b) (or_left a b (h.keeps_it c));
    fits_it = λ g. h.fits_it (and_parts e f (and_parts (governs (k.statement id) b) (e && f) g).1).0;
    names_it = λ v r. or_right (own v) (m v || n v) (or_left (m v) (n v) (h.names_it v r));
    stands_it = λ c g y r. let there = h.stands_it c (and_parts e f (and_parts (governs (k.statement id) b) (e && f) g).1).0 y r in by_answer (k.statement id)
        (λ t. subst (λ ws. StandsIn ws y) (sym (chosen (outer ∷ []) zs t)) (inside (subst (λ ws. StandsIn ws y) (sym is) (stands_left there ys))))
        (λ t. subst (λ ws. StandsIn ws y) (sym (unchosen (outer ∷ []) zs t)) (bare_in y there));
  }

  -- the step and the body of a for
  pub holds_repeated : (id : ℕ) (own : ℕ → Bool) (a e b f : Bool) (m n : ℕ → Bool) (xs ys zs : List Statement) (outer x : Statement) → inner outer ≡ xs ++ ys → Holds b f n ys x
      → Holds (k.statement id || (a || b)) (governs (k.statement id) b && (e && f)) (λ v. own v || (m v || n v)) (if_so (k.statement id) (outer ∷ []) zs) x
  holds_repeated id own a e b f m n xs ys zs outer x is h = record {
    keeps_it = λ c. or_right (k.statement id) (a || b) (or_right a b (h.keeps_it c));
    fits_it = λ g. h.fits_it (and_parts e f (and_parts (governs (k.statement id) b) (e && f) g).1).1;
    names_it = λ v r. or_right (own v) (m v || n v) (or_right (m v) (n v) (h.names_it v r));
    stands_it = λ c g y r. let both = and_parts (governs (k.statement id) b) (e && f) g in subst (λ ws. StandsIn ws y) (sym (chosen (outer ∷ []) zs (governs_back (k.statement id) b both.0 (h.keeps_it c)))) (inside (subst (λ ws. StandsIn ws y) (sym is) (stands_right xs (h.stands_it c (and_parts e f both.1).1 y r))));
  }

  -- ---- lists, arms and parts

  abbrev pub InList : List Statement → Statement → Type 0
  InList xs x = Holds (any_kept (map (nest k.statement) xs)) (all_fit (map (nest k.statement) xs)) (any_of (map (refers (words_kept k)) xs)) (all_left p k xs) x

  pub in_list : (xs : List Statement) {x : Statement} → Among xs x → InList xs x
  in_list [] h = among_none h
  in_list (x ∷ xs) first = holds_first _ _ _ _ (refers (words_kept k) x) (any_of (map (refers (words_kept k)) xs)) (left p k x) (all_left p k xs) x (holds_itself x)
  in_list (z ∷ xs) {x} (next h) = holds_second _ _ _ _ (refers (words_kept k) z) (any_of (map (refers (words_kept k)) xs)) (left p k z) (all_left p k xs) x (in_list xs h)

  abbrev InArm : Arm → Statement → Type 0
  InArm a x = Holds (arm_nest k.statement a).keeps (arm_nest k.statement a).fits (arm_refers (words_kept k) a) (out-Arm (arm_left p k a)).body x

  in_arm : (a : Arm) (x : Statement) → Among (out-Arm a).body x → InArm a x
  in_arm a x h =
      subst (λ (m : Nest). Holds m.keeps m.fits (arm_refers (words_kept k) a) (out-Arm (arm_left p k a)).body x) (sym (fold_out-Arm Nest Nest (nest_step k.statement) (nest_arm k.statement) a))
      (subst (λ (n : ℕ → Bool). Holds (any_kept (map (nest k.statement) (out-Arm a).body)) (all_fit (map (nest k.statement) (out-Arm a).body)) n (out-Arm (arm_left p k a)).body x) (sym (fold_out-Arm (ℕ → Bool) (ℕ → Bool) (refers_step (words_kept k)) (refers_arm (words_kept k)) a))
      (subst (λ (b : Arm). Holds (any_kept (map (nest k.statement) (out-Arm a).body)) (all_fit (map (nest k.statement) (out-Arm a).body)) (any_of (map (refers (words_kept k)) (out-Arm a).body)) (out-Arm b).body x) (sym (fold_out-Arm (List Statement) Arm (projected_step k (numbers p k)) (projected_arm_step k (numbers p k)) a)) (in_list (out-Arm a).body h)))

  abbrev pub InArms : List Arm → Statement → Type 0
  InArms arms x = Holds (any_kept (map (arm_nest k.statement) arms)) (all_fit (map (arm_nest k.statement) arms)) (any_of (map (arm_refers (words_kept k)) arms)) (arms_inner (map (arm_left p k) arms)) x

  pub in_arms : (arms : List Arm) (x : Statement) → Among (arms_inner arms) x → InArms arms x
  in_arms [] x h = among_none h
  in_arms (a ∷ arms) x h = elim (among_split (out-Arm a).body h) [
    | inl b ↦ holds_first _ _ _ _ (arm_refers (words_kept k) a) (any_of (map (arm_refers (words_kept k)) arms)) (out-Arm (arm_left p k a)).body (arms_inner (map (arm_left p k) arms)) x (in_arm a x b)
    | inr r ↦ holds_second _ _ _ _ (arm_refers (words_kept k) a) (any_of (map (arm_refers (words_kept k)) arms)) (out-Arm (arm_left p k a)).body (arms_inner (map (arm_left p k) arms)) x (in_arms arms x r)
  ]

  abbrev pub of_part : Statement → List Statement
  of_part a = option_to_list (first_statement (left p k a))

  abbrev pub InPart : Statement → Statement → Type 0
  InPart a x = Holds (nest k.statement a).keeps (nest k.statement a).fits (refers (words_kept k) a) (of_part a) x

  pub in_part : (a x : Statement) → splits k a ≡ false → Among (a ∷ []) x → InPart a x
  in_part a x whole h =
      subst (InPart a) (among_one h) (subst (λ ys. Holds (nest k.statement a).keeps (nest k.statement a).fits (refers (words_kept k) a) ys a) (sym (short a whole)) (holds_itself a))
