-- What a shelf tells of its files: the bytes under each name, if it tells them.
use Rattle.std.specs.Prelude.{◌≡◌, ℕ, ◌<◌, List, length, Option, None, Some, IfSome, IsSomeAnd}

-- the bytes under a name, or None where nothing stands under it; of a shelf that tells its contents
abbrev pub Told : Type 0
Told = Option (List ℕ → Option (List ℕ))

-- contents are told, and nothing stands under the name
abbrev pub Lacks : Told → List ℕ → Type 0
Lacks told name = IsSomeAnd told (λ under. under name ≡ None)

-- where contents are told, these bytes stand under the name
abbrev pub IsAsTold : Told → List ℕ → List ℕ → Type 0
IsAsTold told name bytes = IfSome told (λ under. under name ≡ Some bytes)

-- contents are told, and more bytes than these stand under the name
abbrev pub HoldsMoreThan : Told → List ℕ → ℕ → Type 0
HoldsMoreThan told name most = IsSomeAnd told (λ under. IsSomeAnd (under name) (λ bytes. most < length bytes))
