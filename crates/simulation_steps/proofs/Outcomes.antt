-- What expressions and acts come to in a program and in its slice: in the original that is a value, there it is one like it.
use Rattle.std.specs.Prelude.{◌≡◌, ℕ, List, [], ◌∷◌, ◌++◌, Bool, true, Option, Some, None, All}
use Rattle.c_tree.specs.declared.expr.Expr.{Expr}
use Rattle.c_tree.specs.declared.expr.MemberId.{MemberId}
use Rattle.c_language.specs.Code.{Act, Returns}
use Rattle.c_language.specs.Names.{names as named_in}
use Rattle.c_meaning.specs.declared.value.Place.{Place}
use Rattle.c_meaning.specs.Memory.{read, is_cell}
use Rattle.c_meaning.specs.Values.{Types, State}
use Rattle.c_meaning.specs.Acts.{Store, Request, Made}
use Rattle.simulation.specs.Renaming.{World, Stands, AlikeValue, AlikeCell, cell_at, Names, BlocksStand, FramesStand}

-- ---- results

-- where the first is there, so is the second, and they are in a relation
pub data ComesToo {A B : Type 0} (R : A → B → Type 0) : Option A → Option B → Type 0 where
  undefined : {o : Option B} → ComesToo R None o
  comes : {a : A} {b : B} → R a b → ComesToo R (Some a) (Some b)

-- lists of one length, item by item
pub data AlikeList {A B : Type 0} (R : A → B → Type 0) : List A → List B → Type 0 where
  nil : AlikeList R [] []
  cons : {a : A} {b : B} {as_ : List A} {bs : List B} → R a b → AlikeList R as_ bs → AlikeList R (a ∷ as_) (b ∷ bs)

-- one path in a block and in one that stands for it
pub record AlikePlace (w : World) (q r : Place) : Type 0 where
  pub stands : Stands w q.block r.block
  pub path_is : r.path ≡ q.path

pub record AlikeStore (w : World) (x y : Store) : Type 0 where
  pub place : AlikePlace w x.place y.place
  pub value : AlikeValue w x.value y.value

-- a block is freed, and the one that stands for it; or none
pub data AlikeBlock (w : World) : Option ℕ → Option ℕ → Type 0 where
  no_block : AlikeBlock w None None
  one_block : {b c : ℕ} → Stands w b c → AlikeBlock w (Some b) (Some c)

pub record AlikeMade (w : World) (x y : Made) : Type 0 where
  pub values : AlikeList (AlikeValue w) x.values y.values
  pub stores : AlikeList (AlikeStore w) x.stores y.stores
  pub output : y.output ≡ x.output
  pub taken : y.taken ≡ x.taken
  pub begun : y.begun ≡ x.begun
  pub freed : AlikeBlock w x.freed y.freed
  pub returned : AlikeCell w x.returned y.returned

-- the world where both programs have begun what is asked for, the original with so many blocks before
abbrev pub world_with : World → ℕ → Option Request → World
world_with w count None = w
world_with w count (Some r) = w ++ count ∷ []

-- ---- what is asked of both states

-- where a cell of the original holds a value, the cell of each block that stands for its block holds one like it
abbrev pub HoldsAlike : World → State → State → Place → Type 0
HoldsAlike w s t q = (c : ℕ) → Stands w q.block c → ComesToo (AlikeValue w) (read s.memory q) (read t.memory (cell_at c q.path))

abbrev pub HoldAlike : World → State → State → List Place → Type 0
HoldAlike w s t = All (HoldsAlike w s t)

-- each cell of a block is one of each block that stands for it
abbrev pub CellsStand : World → State → State → Type 0
CellsStand w s t = (q : Place) (c : ℕ) → Stands w q.block c → is_cell s.memory q ≡ true → is_cell t.memory (cell_at c q.path) ≡ true

-- variables that stay, and members, have the types that they had
pub record SameTypes (names : Names) (types there : Types) : Type 0 where
  pub variables : (x : ℕ) → names.stays x ≡ true → there.typing.variable (names.variable x) ≡ types.typing.variable x
  pub members : (m : MemberId) → there.typing.member m ≡ types.typing.member m

-- what is named stays
abbrev pub NamesStay : Names → (ℕ → Bool) → Type 0
NamesStay names named = (x : ℕ) → named x ≡ true → names.stays x ≡ true

abbrev pub Staying : Names → Expr → Type 0
Staying names e = NamesStay names (named_in e)

-- a function that returns a value has the type of result that it had
abbrev pub SameResult : Types → Types → Act → Type 0
SameResult types there a = (e : Expr) → a ≡ Returns (Some e) → there.result ≡ types.result

-- blocks of the slice stand for blocks of the original, those of variables that stay for those of the same variables
pub record StatesStand (names : Names) (w : World) (types there : Types) (s t : State) : Type 0 where
  pub blocks : BlocksStand names w s t
  pub frames : FramesStand names w s.frame t.frame
  pub types_are : SameTypes names types there
