-- Choices as nodes that refer to each other: only private contracts name this.
use Rattle.std.specs.Prelude.{◌≡◌, ◌<◌, ℕ, List, [], ◌∷◌, ◌++◌, Option, Some, None, length, get_or, reverse}
use Rattle.glob_text.specs.declared.choices.Counted.{Counted}
use Rattle.glob_text.specs.declared.choices.Drawing.{Drawing}
use Rattle.glob_text.specs.declared.choices.Group.{Group}
use Rattle.glob_text.specs.declared.choices.Node.{Node}
use Rattle.glob_text.specs.declared.choices.Node.TheVariants.{End, One, Both}
use Rattle.glob_text.specs.declared.choices.Opened.{Opened}
use Rattle.glob_text.specs.Backwards.{Pending, Behind, each_after, choices_behind, at_end}
use Rattle.glob_text.specs.Chosen.{mark_at}
use Rattle.glob_text.specs.Marks.{Mark, literal, any, star, one_of, opens, comma, closes}
use Rattle.glob_text.specs.Sizes.{both_sizes, size_of, with_mark}

-- the node of this index
abbrev pub node_at : List Node → ℕ → Node
node_at nodes i = get_or nodes i End

-- the alternatives that are read come innermost first
pub record Drawn : Type 0 where
  pub nodes : List Node
  pub groups : List Group
  pub current : Counted

abbrev pub drawing_of : {A : Type 0} → Drawing A → Drawn
drawing_of d = record { nodes = d.nodes.items; groups = reverse d.groups.items; current = d.current }

-- before the mark of this index, which is itself
abbrev pub with_one : Drawn → ℕ → Drawn
with_one d i = record {
  nodes = d.nodes ++ One i d.current.node ∷ [];
  groups = d.groups;
  current = record { node = length d.nodes; size = with_mark d.current.size };
}

-- with the choices that were found before, after those of now
abbrev pub with_found : Drawn → Option Counted → Drawn
with_found d None = d
with_found d (Some found) = record {
  nodes = d.nodes ++ Both d.current.node found.node ∷ [];
  groups = d.groups;
  current = record { node = length d.nodes; size = both_sizes d.current.size found.size };
}

abbrev pub within : Drawn → List Group → Drawn
within d gs = record { nodes = d.nodes; groups = gs; current = d.current }

-- before a `{`
abbrev pub open_in : List Group → Drawn → Drawn
open_in [] d = d
open_in (g ∷ gs) d = with_found (within d gs) g.found

-- an alternative is whole
abbrev pub divided : Drawn → Counted → Drawn
divided d after = record { nodes = d.nodes; groups = record { after = after; found = Some d.current } ∷ d.groups; current = after }

-- before a comma
abbrev pub comma_in : List Group → Drawn → ℕ → Drawn
comma_in [] d i = with_one d i
comma_in (g ∷ gs) d i = divided (with_found (within d gs) g.found) g.after

-- before one more mark, which has this index
abbrev pub added : Drawn → Mark → ℕ → Drawn
added d (literal letter) i = with_one d i
added d any i = with_one d i
added d (star again) i = with_one d i
added d (one_of negated ranges) i = with_one d i
added d (opens index) i = open_in d.groups d
added d comma i = comma_in d.groups d i
added d (closes index) i = within d (record { after = d.current; found = None } ∷ d.groups)

-- the node leads to the choices of the marks
pub data Leads (marks : List Mark) (nodes : List Node) : ℕ → List (List Mark) → Type 0 where
  ends : {i : ℕ} → i < length nodes → node_at nodes i ≡ End → Leads marks nodes i ([] ∷ [])
  one : {i : ℕ} {cs : List (List Mark)} (index next : ℕ) → i < length nodes → node_at nodes i ≡ One index next → next < i → Leads marks nodes next cs → Leads marks nodes i (each_after (mark_at marks index) cs)
  both : {i : ℕ} {cs ds : List (List Mark)} (first second : ℕ) → i < length nodes → node_at nodes i ≡ Both first second → first < i → second < i → Leads marks nodes first cs → Leads marks nodes second ds → Leads marks nodes i (cs ++ ds)

module _ (marks : List Mark) (nodes : List Node) where
  -- they are these choices
  pub record Are (c : Counted) (cs : List (List Mark)) : Type 0 where
    pub leads : Leads marks nodes c.node cs
    pub size : c.size ≡ size_of cs

  abbrev pub AreFound : Option Counted → List (List Mark) → Type 0
  AreFound None cs = cs ≡ []
  AreFound (Some c) cs = Are c cs

  abbrev pub AreGroups : List Group → List (Pending (List (List Mark))) → Type 0
  AreGroups [] [] = Unit {0}
  AreGroups [] (p ∷ ps) = ⊥
  AreGroups (g ∷ gs) [] = ⊥
  AreGroups (g ∷ gs) (p ∷ ps) = Are g.after p.after × AreFound g.found p.found × AreGroups gs ps

-- what is drawn is what is written out
pub record IsDrawn (marks : List Mark) (d : Drawn) (s : Behind (List (List Mark))) : Type 0 where
  pub current : Are marks d.nodes d.current s.current
  pub groups : AreGroups marks d.nodes d.groups s.groups

abbrev pub IsDrawingOf : List Mark → Drawn → Type 0
IsDrawingOf marks d = IsDrawn marks d (choices_behind marks at_end)

-- a choice that is being written, and those that are: the last is gone on with first
pub record OneOpened : Type 0 where
  pub marks : List ℕ
  pub node : ℕ

pub record Writing : Type 0 where
  pub opened : List OneOpened
  pub written : List (List ℕ)

abbrev pub opened_of : {A : Type 0} → Opened A → OneOpened
opened_of o = record { marks = o.marks.items; node = o.node }

-- one node further
abbrev pub stepped : Node → OneOpened → Writing → Writing
stepped End o w = record { opened = w.opened; written = w.written ++ o.marks ∷ [] }
stepped (One index next) o w = record { opened = record { marks = o.marks ++ index ∷ []; node = next } ∷ w.opened; written = w.written }
stepped (Both first second) o w = record { opened = record { marks = o.marks; node = first } ∷ record { marks = o.marks; node = second } ∷ w.opened; written = w.written }
