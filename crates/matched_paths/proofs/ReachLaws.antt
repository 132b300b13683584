-- What reaches a set by a word that rises and then falls: it is found by going back along edges inside functions, over edges that open
-- a call from what falls to the set, and over edges that close one after that.
use Rattle.std.proofs.Common.{ℕ, ◌≡◌, ◌<◌, Bool, List, [], ◌∷◌, ◌++◌, length, Contains, refl, sym, ap, ◌∙◌, subst, inl, inr, append_assoc}
use Rattle.std.specs.Prelude.{IsTrue}
use Rattle.std.proofs.lemmas.Option.{slice_get_within}
use Rattle.bit_rows.specs.Sets.{has}
use Rattle.dep_model.specs.declared.edge.Edge.{Edge}
use Rattle.dep_model.specs.declared.graph.Graph.{Graph}
use Rattle.dep_model.specs.declared.vertex.VertexKind.TheVariants as kind
use Rattle.dep_model.specs.Facts.{FactSet, IsInnerEdge, IsMatchedPath}
use Rattle.dep_model.specs.Graphs.{edge}
use Rattle.dep_model.specs.Shapes.{IsShaped, IsFitting}
use Rattle.dep_model.specs.Shapes as shapes
use Rattle.dep_model.specs.VertexOrder.{in_function}
use Rattle.dep_model.specs.Words.{Letter, Open, Close, word, IsPath, Rises, Falls, ReachesAny}
use Rattle.dep_model.specs.Words as words
use Rattle.matched_paths.specs.Laws.{HasEachTrueFact}
use Rattle.matched_paths.proofs.Levels.{Spelled, split, first_letter, silent, level_of, join_paths, word-append, word_with}
use Rattle.matched_paths.proofs.FactLaws.{back_along}

-- ---- what a path with such a word gives to where it begins
module _ (g : Graph) (K : FactSet) (P : ℕ → Type 0) (shaped : IsShaped g) (all : HasEachTrueFact g K) (inner : (a b : ℕ) → IsInnerEdge g.edges K a b → P b → P a) where
  pub back_along_falling : ((n a b : ℕ) → Spelled g.edges (Open n ∷ []) a b → P b → P a) → {w : List Letter} → Falls w → (es : List Edge) (a b : ℕ) → IsPath g.edges a es b → word es ≡ w → P b → P a
  back_along_falling opened words.flat es a b p e h = back_along g K P shaped all inner (silent g.edges es a b p e) h
  back_along_falling opened (words.level {w = w} {x = x} m f) es a b p e h =
      let s = split g.edges es a b w x p e in
      back_along g K P shaped all inner (level_of m g.edges s.front a s.middle s.front_joins s.front_spells)
      (back_along_falling opened f s.back s.middle b s.back_joins s.back_spells h)
  back_along_falling opened (words.open_ c {x = x} f) es a b p e h =
      let s = first_letter g.edges es a b (Open c) x p e in
      back_along g K P shaped all inner s.before (opened c s.at s.next s.letter (back_along_falling opened f s.rest s.next b s.joins s.spells h))

  pub back_along_rising : ((n a b : ℕ) → Spelled g.edges (Close n ∷ []) a b → P b → P a) → {w : List Letter} → Rises w → (es : List Edge) (a b : ℕ) → IsPath g.edges a es b → word es ≡ w → P b → P a
  back_along_rising closed words.flat es a b p e h = back_along g K P shaped all inner (silent g.edges es a b p e) h
  back_along_rising closed (words.level {w = w} {x = x} m f) es a b p e h =
      let s = split g.edges es a b w x p e in
      back_along g K P shaped all inner (level_of m g.edges s.front a s.middle s.front_joins s.front_spells)
      (back_along_rising closed f s.back s.middle b s.back_joins s.back_spells h)
  back_along_rising closed (words.close c {x = x} f) es a b p e h =
      let s = first_letter g.edges es a b (Close c) x p e in
      back_along g K P shaped all inner s.before (closed c s.at s.next s.letter (back_along_rising closed f s.rest s.next b s.joins s.spells h))

-- ---- paths to one of a set
-- a path whose word falls leads to one of a set
pub record FallsToAny (edges : List Edge) (s : List Bool) (a : ℕ) : Type 0 where
  pub goal : ℕ
  pub wanted : IsTrue (has s goal)
  pub path : List Edge
  pub joins : IsPath edges a path goal
  pub falls : Falls (word path)

module _ (edges : List Edge) (s : List Bool) where
  pub falls_itself : (v : ℕ) → IsTrue (has s v) → FallsToAny edges s v
  falls_itself v h = record { goal = v; wanted = h; path = []; joins = refl; falls = words.flat }

  pub falls_level : (a b : ℕ) → IsMatchedPath edges a b → FallsToAny edges s b → FallsToAny edges s a
  falls_level a b m r = record {
    goal = r.goal;
    wanted = r.wanted;
    path = m.path ++ r.path;
    joins = join_paths edges m.path r.path a b r.goal m.joins r.joins;
    falls = subst Falls (sym (word-append m.path r.path)) (words.level m.matched r.falls);
  }

  pub falls_open : (n a b : ℕ) → Spelled edges (Open n ∷ []) a b → FallsToAny edges s b → FallsToAny edges s a
  falls_open n a b h r = record {
    goal = r.goal;
    wanted = r.wanted;
    path = edge a b h.label ∷ r.path;
    joins = (h.member, refl, r.joins);
    falls = subst Falls (sym (word_with h r.path)) (words.open_ n r.falls);
  }

  pub reaches_falling : (a : ℕ) → FallsToAny edges s a → ReachesAny edges s a
  reaches_falling a r = record {
    goal = r.goal;
    wanted = r.wanted;
    reaches = record { path = r.path; joins = r.joins; up = []; down = word r.path; rises = words.flat; falls = r.falls; spells = refl };
  }

  pub reaches_level : (a b : ℕ) → IsMatchedPath edges a b → ReachesAny edges s b → ReachesAny edges s a
  reaches_level a b m r =
      let q = r.reaches in
      record {
        goal = r.goal;
        wanted = r.wanted;
        reaches = record {
          path = m.path ++ q.path;
          joins = join_paths edges m.path q.path a b r.goal m.joins q.joins;
          up = word m.path ++ q.up;
          down = q.down;
          rises = words.level m.matched q.rises;
          falls = q.falls;
          spells = word-append m.path q.path ∙ ap (λ v. word m.path ++ v) q.spells ∙ sym (append_assoc (word m.path) q.up q.down);
        };
      }

  pub reaches_close : (n a b : ℕ) → Spelled edges (Close n ∷ []) a b → ReachesAny edges s b → ReachesAny edges s a
  reaches_close n a b h r =
      let q = r.reaches in
      record {
        goal = r.goal;
        wanted = r.wanted;
        reaches = record {
          path = edge a b h.label ∷ q.path;
          joins = (h.member, refl, q.joins);
          up = Close n ∷ q.up;
          down = q.down;
          rises = words.close n q.rises;
          falls = q.falls;
          spells = word_with h q.path ∙ ap (λ v. Close n ∷ v) q.spells;
        };
      }

-- ---- the ends of edges are vertices
fits_below : (g : Graph) (e : Edge) → IsFitting g e → (e.from < length g.vertices) × (e.to < length g.vertices)
fits_below g e (shapes.inside f j k s p q) = (slice_get_within g.vertices e.from (in_function f j) p, slice_get_within g.vertices e.to (in_function f k) q)
fits_below g e (shapes.call f i to s p q) = (slice_get_within g.vertices e.from (in_function f (kind.Call i)) p, slice_get_within g.vertices e.to (in_function to kind.Entry) q)
fits_below g e (shapes.in_ f i to c slot o s p q) =
    (slice_get_within g.vertices e.from (in_function f (kind.ActualIn i slot)) p, slice_get_within g.vertices e.to (in_function to (kind.FormalIn slot)) q)
fits_below g e (shapes.out f i to c slot o s p q) =
    (slice_get_within g.vertices e.from (in_function to (kind.FormalOut slot)) p, slice_get_within g.vertices e.to (in_function f (kind.ActualOut i slot)) q)

pub edge_below : (g : Graph) → IsShaped g → (e : Edge) → Contains g.edges e → (e.from < length g.vertices) × (e.to < length g.vertices)
edge_below g shaped e m = fits_below g e (shaped.fitting e m)

pub inner_below : (g : Graph) (K : FactSet) → IsShaped g → (a b : ℕ) → IsInnerEdge g.edges K a b → (a < length g.vertices) × (b < length g.vertices)
inner_below g K shaped a b (inl m) = edge_below g shaped _ m
inner_below g K shaped a b (inr (inl m)) = edge_below g shaped _ m
inner_below g K shaped a b (inr (inr s)) = ((edge_below g shaped _ s.enters).0, (edge_below g shaped _ s.leaves).1)

-- where a path begins, if it ends at a vertex
pub path_below : (g : Graph) → IsShaped g → (es : List Edge) (a b : ℕ) → IsPath g.edges a es b → b < length g.vertices → a < length g.vertices
path_below g shaped [] a b j h = subst (λ x. x < length g.vertices) (sym j) h
path_below g shaped (e ∷ es) a b j h = subst (λ x. x < length g.vertices) j.1 (edge_below g shaped e j.0).0
