-- Graphs, sites that are joined by links, and spanning trees.
use Rattle.std.specs.Prelude.{◌≡◌, ℕ, ◌+◌, ◌<◌, ◌≤◌, Bool, true, List, length}
use Rattle.forests.specs.Lists.{In, Different}

-- Sites are numbered from 0, and so are links. Link e runs between the sites `from e` and `to e`;
-- only usable links may be chosen.
pub record Graph : Type 0 where
  pub sites : ℕ
  pub links : ℕ
  pub from : ℕ → ℕ
  pub to : ℕ → ℕ
  pub usable : ℕ → Bool

-- Every link runs between two sites of the graph.
pub record Fits (g : Graph) : Type 0 where
  pub from_fits : (e : ℕ) → e < g.links → g.from e < g.sites
  pub to_fits : (e : ℕ) → e < g.links → g.to e < g.sites

-- A chain of links of S leads from one site to the other. Links may be walked in both directions.
pub data Joined (from to : ℕ → ℕ) (S : List ℕ) : ℕ → ℕ → Type 0 where
  link : {u v : ℕ} (e : ℕ) → In e S → from e ≡ u → to e ≡ v → Joined from to S u v
  same : {u v : ℕ} → u ≡ v → Joined from to S u v
  turn : {u v : ℕ} → Joined from to S v u → Joined from to S u v
  chain : {u v : ℕ} (w : ℕ) → Joined from to S u w → Joined from to S w v → Joined from to S u v

-- S joins the two ends of link e already: to add e would close a ring.
abbrev pub Spans : (ℕ → ℕ) → (ℕ → ℕ) → List ℕ → ℕ → Type 0
Spans from to S e = Joined from to S (from e) (to e)

-- Link e of the graph closes a ring with S.
abbrev pub ClosesRing : Graph → List ℕ → ℕ → Type 0
ClosesRing g = Spans g.from g.to

-- The links of S run between sites below n.
abbrev pub Inside : (ℕ → ℕ) → (ℕ → ℕ) → ℕ → List ℕ → Type 0
Inside from to n S = (e : ℕ) → In e S → (from e < n) × (to e < n)

-- Chains of links of S lead from every site below n to every other.
abbrev pub JoinsAll : (ℕ → ℕ) → (ℕ → ℕ) → ℕ → List ℕ → Type 0
JoinsAll from to n S = (u v : ℕ) → u < n → v < n → Joined from to S u v

-- The members of S are usable links of the graph.
abbrev pub Allowed : Graph → List ℕ → Type 0
Allowed g S = (e : ℕ) → In e S → (e < g.links) × (g.usable e ≡ true)

-- S, in any order, is a spanning tree: one link less than there are sites, all different, all
-- usable links of the graph, and together they join all sites.
pub record SpanningTree (g : Graph) (S : List ℕ) : Type 0 where
  pub size : length S + 1 ≡ g.sites
  pub different : Different S
  pub allowed : Allowed g S
  pub joins : JoinsAll g.from g.to g.sites S

-- There are sites, and some usable links join them all: chains of usable links lead from every site to every other.
abbrev pub SitesJoined : Graph → Type 0
SitesJoined g = (1 ≤ g.sites) × (S : List ℕ) × Allowed g S × JoinsAll g.from g.to g.sites S
