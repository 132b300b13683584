-- Rules as they are found at their premises, and how they lie in memory.
use Rattle.std.specs.Prelude.{ℕ, ◌≡◌, ◌≢◌, ◌<◌, ◌≤◌, ◌-◌, ◌^◌, Bool, List, ◌++◌, map, length, get_or, Contains, IsTrue}
use Rattle.bit_rows.specs.Sets.{has, count_of}
use Rattle.rule_closure.specs.declared.closure.Rule.{Rule}
use Rattle.rule_closure.specs.declared.engine.Link.{Link}

-- a rule, from its first premise
abbrev pub from_first : Rule → Link
from_first r = record { to = r.first; beside = r.second; gives = r.gives }

-- a rule, from its second premise
abbrev pub from_second : Rule → Link
from_second r = record { to = r.second; beside = r.first; gives = r.gives }

-- each rule, from each of its premises
abbrev pub links_of : List Rule → List Link
links_of rules = map from_first rules ++ map from_second rules

-- a link from the premises v and w to u
pub record Linked (links : List Link) (v w u : ℕ) : Type 0 where
  pub link : Link
  pub member : Contains links link
  pub to_is : link.to ≡ v
  pub beside_is : link.beside ≡ w
  pub gives_is : link.gives ≡ u

-- a number is in the set, or the links give it from the set in finitely many steps
pub data LinkDerived (links : List Link) (s : List Bool) : ℕ → Type 0 where
  seed : {v : ℕ} → IsTrue (has s v) → LinkDerived links s v
  by : {v w u : ℕ} → Linked links v w u → LinkDerived links s v → LinkDerived links s w → LinkDerived links s u

-- h - 1 is the last place below n of a link at v, or h is 0 where there is none
pub record IsLast (links : List Link) (v n h : ℕ) : Type 0 where
  pub below : h ≤ n
  pub here : 0 < h → (l : Link) → get_or links (h - 1) l ≡ l → l.to ≡ v
  pub above : (e : ℕ) (l : Link) → h ≤ e → e < n → get_or links e l ≡ l → l.to ≢ v

-- the numbers of a link are below n
pub record IsLinkWithin (n : ℕ) (l : Link) : Type 0 where
  pub to_in : l.to < n
  pub beside_in : l.beside < n
  pub gives_in : l.gives < n

-- from each number and each link, the last link before at the same number
pub record IsIndexed (links : List Link) (heads nexts : List ℕ) : Type 0 where
  pub long : length nexts ≡ length links
  pub in_range : (e : ℕ) (l : Link) → e < length links → get_or links e l ≡ l → IsLinkWithin (length heads) l
  pub heads_are : (v : ℕ) → v < length heads → IsLast links v (length links) (get_or heads v 0)
  pub nexts_are : (e : ℕ) (l : Link) → e < length links → get_or links e l ≡ l → IsLast links l.to e (get_or nexts e 0)

-- what a value of `Closure` keeps
pub record IsReady (rules : List Rule) (links : List Link) (heads nexts order : List ℕ) : Type 0 where
  pub indexed : IsIndexed links heads nexts
  pub room : length order ≡ length heads
  pub few : length heads < 2 ^ 32
  pub links_are : links ≡ links_of rules

-- the first `filled` of the order are the members of the set, each once
pub record IsListed (order : List ℕ) (filled : ℕ) (s : List Bool) : Type 0 where
  pub inside : (i : ℕ) → i < filled → IsTrue (has s (get_or order i 0))
  pub covers : (v : ℕ) → IsTrue (has s v) → (i : ℕ) × (i < filled) × (get_or order i 0 ≡ v)
  pub count : count_of s ≡ filled
