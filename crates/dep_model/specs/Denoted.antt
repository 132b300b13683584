-- What expressions name and read, where it is known what each location may point to.
use Rattle.std.specs.Prelude.{ℕ, [], ◌∷◌, ◌++◌, Bool, false, ◌&&◌, ◌||◌, if◌then◌else◌}
use Rattle.std.specs.List.{list_any}
use Rattle.c_tree.specs.declared.expr.Expr.{Expr, fold-Expr, map-Expr}
use Rattle.c_tree.specs.declared.expr.Expr.TheOpen.{Expr-F}
use Rattle.c_tree.specs.declared.program.Program.{Program}
use Rattle.c_language.specs.ExprTypes.{is_scalar, is_pointer}
use Rattle.dep_model.specs.declared.location.Location.{Location}
use Rattle.dep_model.specs.declared.location.Root.TheVariants.{Variable}
use Rattle.dep_model.specs.declared.location.Part.{Part}
use Rattle.dep_model.specs.declared.location.Part.TheVariants as part
use Rattle.dep_model.specs.Locations.{TypedLocation, locations, same_location}
use Rattle.dep_model.specs.Designated.{Designated, is_array_place, designated_step}

-- a set of locations
abbrev pub Places : Type 0
Places = Location → Bool

-- for each location those to which it may point
abbrev pub TargetsOf : Type 0
TargetsOf = Location → Places

abbrev pub no_places : Places
no_places l = false

abbrev pub either_of : Places → Places → Places
either_of a b l = a l || b l

-- the location of a whole variable
abbrev pub variable : ℕ → Location
variable x = record { root = Variable x; path = [] }

abbrev pub whole : ℕ → Places
whole x = same_location (variable x)

abbrev pub inside : Location → Part → Location
inside l h = record { root = l.root; path = l.path ++ h ∷ [] }

-- the locations of the program: those of its list
abbrev pub is_location : Program → Places
is_location p l = list_any (λ (o : TypedLocation). same_location o.location l) (locations p)

-- this part of each of some locations
abbrev pub part_of : Program → Part → Places → Places
part_of p h places l =
    is_location p l && list_any (λ (o : TypedLocation). places o.location && same_location (inside o.location h) l) (locations p)

-- the locations to which some may point
abbrev pub targets : Program → TargetsOf → Places → Places
targets p points places l = is_location p l && list_any (λ (o : TypedLocation). places o.location && points o.location l) (locations p)

-- an expression: what it designates; the locations that its object may be; what its value may point to, where it
-- designates none; and what is read to find its object, or else its value
pub record Denoted : Type 0 where
  pub form : Designated
  pub places : Places
  pub points : Places
  pub reads : Places

module _ (p : Program) (points : TargetsOf) where
  -- what is read for the value of an expression: an array isn't read
  abbrev pub value_reads : Denoted → Places
  value_reads d l = d.reads l || ((d.form.is_place && is_scalar d.form.type) && d.places l)

  -- what an object of pointer type may point to
  abbrev pub object_points : Denoted → Places
  object_points d l = is_pointer d.form.type && targets p points d.places l

  -- what the value may point to: an array turns into a pointer to its elements
  abbrev pub value_points : Denoted → Places
  value_points d l =
      if is_array_place d.form then part_of p part.Element d.places l else (if d.form.is_place then object_points d l else d.points l)

  abbrev pub a_value : Designated → Places → Places → Denoted
  a_value f to reads = record { form = f; places = no_places; points = to; reads = reads }

  -- an object that is found by reading these
  abbrev pub an_object : Designated → Places → Places → Denoted
  an_object f places reads = record { form = f; places = places; points = no_places; reads = reads }

  abbrev pub reads_either : Denoted → Denoted → Places
  reads_either a b = either_of (value_reads a) (value_reads b)

  -- a sum, a difference or a choice that is a pointer may point where its operands do
  abbrev pub points_either : Designated → Denoted → Denoted → Places
  points_either f a b l = is_pointer f.type && (value_points a l || value_points b l)

  -- an element of an array lies in it; behind a pointer it is what that points to
  abbrev pub an_element : Designated → Denoted → Denoted → Denoted
  an_element f a i =
      if is_array_place a.form then an_object f (part_of p part.Element a.places) (either_of a.reads (value_reads i)) else an_object f (value_points a) (reads_either a i)

  abbrev pub denoted_as : Designated → Expr-F Denoted → Denoted
  denoted_as f (Expr-F.Constant text k v) = a_value f no_places no_places
  denoted_as f Expr-F.Null = a_value f no_places no_places
  denoted_as f Expr-F.Eof = a_value f no_places no_places
  denoted_as f (Expr-F.Variable x) = an_object f (whole x) no_places
  denoted_as f (Expr-F.Unary op a) = a_value f no_places (value_reads a)
  denoted_as f (Expr-F.Deref a) = an_object f (value_points a) (value_reads a)
  denoted_as f (Expr-F.AddressOf a) = a_value f a.places a.reads
  denoted_as f (Expr-F.Binary op a b) = a_value f (points_either f a b) (reads_either a b)
  denoted_as f (Expr-F.AndAlso a b) = a_value f no_places (reads_either a b)
  denoted_as f (Expr-F.OrElse a b) = a_value f no_places (reads_either a b)
  denoted_as f (Expr-F.Choose c a b) = a_value f (points_either f a b) (either_of (value_reads c) (reads_either a b))
  denoted_as f (Expr-F.Cast k a) = a_value f no_places (value_reads a)
  denoted_as f (Expr-F.Index a i) = an_element f a i
  denoted_as f (Expr-F.Member a m) = an_object f (part_of p (part.Member m.index) a.places) a.reads
  denoted_as f (Expr-F.Arrow a m) = an_object f (part_of p (part.Member m.index) (value_points a)) (value_reads a)
  denoted_as f (Expr-F.Paren a) = record a { form = f }

  abbrev pub denoted_step : Expr-F Denoted → Denoted
  denoted_step z = denoted_as (designated_step p (map-Expr Denoted Designated (λ (d : Denoted). d.form) z)) z

  abbrev pub denoted : Expr → Denoted
  denoted = fold-Expr Denoted denoted_step

  abbrev pub expr_reads : Expr → Places
  expr_reads e = value_reads (denoted e)

  abbrev pub expr_points : Expr → Places
  expr_points e = value_points (denoted e)

  abbrev pub expr_places : Expr → Places
  expr_places e = (denoted e).places

  -- what is read to find the object of a left side
  abbrev pub left_reads : Expr → Places
  left_reads e = (denoted e).reads
