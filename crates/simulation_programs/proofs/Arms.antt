-- Labels and arms of switches, and the arm that is taken at a value.
use Rattle.std.proofs.Common.{◌≡◌, ℕ, ℤ, List, [], ◌∷◌, map, Bool, true, false, ◌||◌, refl, sym, ap}
use Rattle.std.specs.Prelude.{if◌then◌else◌}
use Rattle.std.proofs.lemmas.Bool.{false≢true}
use Rattle.c_tree.specs.declared.program.Program.{Program}
use Rattle.c_tree.specs.declared.statement.Label.{Label}
use Rattle.c_tree.specs.declared.statement.Label.TheVariants as label
use Rattle.c_language.specs.Code.{Code, End, is_case, has_case, has_default, either, ArmPart, default_arm, case_arm, taken_arm}
use Rattle.projection.specs.Kept.{Kept}
use Rattle.projection.specs.Renumbering.{renamed_label}
use Rattle.simulation_programs.proofs.Forms.{Turns, makes_none, turns_list}

module _ (p : Program) (k : Kept ℕ) where
  -- ---- labels and arms

  -- an arm whose body's projection is that of another, with the same cases; nothing is left of it where nothing stays
  pub record ArmTurns (stay : Bool) (a b : ArmPart) : Type 0 where
    pub does : Turns p k a.does b.does
    pub cases : (v : ℤ) → has_case v b.labels ≡ has_case v a.labels
    pub default : has_default b.labels ≡ has_default a.labels
    pub nothing : stay ≡ false → b.does ≡ End

  pub same_cases : (f : ℕ → ℕ) (v : ℤ) (ls : List Label) → has_case v (map (renamed_label f) ls) ≡ has_case v ls
  same_cases f v [] = refl
  same_cases f v (label.Case e n ∷ ls) = ap (λ b. is_case v (label.Case e n) || b) (same_cases f v ls)
  same_cases f v (label.Default ∷ ls) = same_cases f v ls

  pub same_default : (f : ℕ → ℕ) (ls : List Label) → has_default (map (renamed_label f) ls) ≡ has_default ls
  same_default f [] = refl
  same_default f (label.Case e n ∷ ls) = same_default f ls
  same_default f (label.Default ∷ ls) = refl

  -- ---- choices

  pub either_turns : (b : Bool) (a c x y : Code) → Turns p k a x → Turns p k c y → Turns p k (either b a c) (either b x y)
  either_turns true a c x y h g = h
  either_turns false a c x y h g = g

  pub either_ends : (b : Bool) (a c : Code) → a ≡ End → c ≡ End → either b a c ≡ End
  either_ends true a c h g = h
  either_ends false a c h g = g

  if_turns : (s t : Bool) (a c x y : Code) → t ≡ s → Turns p k a x → Turns p k c y → Turns p k (if s then a else c) (if t then x else y)
  if_turns true true a c x y is h g = h
  if_turns true false a c x y is h g = absurd (false≢true is)
  if_turns false true a c x y is h g = absurd (false≢true (sym is))
  if_turns false false a c x y is h g = g

  -- an arm for an arm
  pub data ArmsTurn : List ArmPart → List ArmPart → Type 0 where
    none : ArmsTurn [] []
    more : {stay : Bool} {a b : ArmPart} {as_ bs : List ArmPart} → ArmTurns stay a b → ArmsTurn as_ bs → ArmsTurn (a ∷ as_) (b ∷ bs)

  default_turns : (as_ bs : List ArmPart) → ArmsTurn as_ bs → Turns p k (default_arm as_) (default_arm bs)
  default_turns as_ bs none = turns_list p k [] [] (makes_none p k)
  default_turns as_ bs (more {a = a} {b = b} {as_ = cs} {bs = ds} h g) = if_turns (has_default a.labels) (has_default b.labels) a.does (default_arm cs) b.does (default_arm ds) h.default h.does (default_turns cs ds g)

  case_turns : (as_ bs : List ArmPart) (v : ℤ) (c d : Code) → ArmsTurn as_ bs → Turns p k c d → Turns p k (case_arm as_ v c) (case_arm bs v d)
  case_turns as_ bs v c d none t = t
  case_turns as_ bs v c d (more {a = a} {b = b} {as_ = cs} {bs = ds} h g) t =
      if_turns (has_case v a.labels) (has_case v b.labels) a.does (case_arm cs v c) b.does (case_arm ds v d) (h.cases v) h.does (case_turns cs ds v c d g t)

  pub taken_turns : (as_ bs : List ArmPart) → ArmsTurn as_ bs → (v : ℤ) → Turns p k (taken_arm as_ v) (taken_arm bs v)
  taken_turns as_ bs h v = case_turns as_ bs v (default_arm as_) (default_arm bs) h (default_turns as_ bs h)

  pub if_ends : (t : Bool) (a c : Code) → a ≡ End → c ≡ End → (if t then a else c) ≡ End
  if_ends true a c h g = h
  if_ends false a c h g = g
