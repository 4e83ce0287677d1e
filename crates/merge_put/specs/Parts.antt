-- For the proofs of the code alone: no public promise and no law cites this, and an auditor may skip it.
-- Merging in the parts that the code has: what it knows of the two files, and the bytes of the merged file in three parts.
use Rattle.std.specs.Prelude.{◌≡◌, List, [], ◌∷◌, false, ℕ, ◌≤◌, length}
use Rattle.num_limits.specs.Capacities.{arcs_most}
use Rattle.num_whole.specs.Answer.{Judged, good, bad}
use Rattle.norm_system.specs.System.{System}
use Rattle.norm_kinds.specs.Kinds.{arc_number_bytes, normal_label_bytes, sum_bytes, totals_bytes}
use Rattle.norm_kinds.specs.Bytes.{sectioned}
use Rattle.norm_read.specs.Normal.{Normal, read_normal}
use Rattle.norm_read.specs.declared.NormalRead.{NormalRead}
use Rattle.merge_join.specs.Join.{union, share, SeatedAt}
use Rattle.norm_labels.specs.Labels.{keys_of}
use Rattle.norm_labels.specs.Seats.{seats}

-- ---- a file that is accepted
abbrev pub no_system : System
no_system = record { arcs = []; labels = []; matrix = []; rights = []; accepted = 0; square = 0 }

abbrev pub no_normal : Normal
no_normal =
    record {
      small = false;
      fielded = [];
      stored = no_system;
      holds = no_system;
      matrix = 0;
      rights = 0;
      totals = 0;
    }

unfoldable pub normal_or : Judged Normal → Normal
normal_or (good x) = x
normal_or (bad number place) = no_normal

unfoldable pub normal_in : List ℕ → Normal
normal_in s = normal_or (read_normal s)

-- the system that a file holds
unfoldable pub system_in_file : List ℕ → System
system_in_file s = (normal_in s).holds

-- the system that it stores, of the labels whose sums are there
unfoldable pub stored_in_file : List ℕ → System
stored_in_file s = (normal_in s).stored

-- bytes that are accepted, with the numbers that reading gave
pub record AsRead (s : List ℕ) (r : NormalRead) : Type 0 where
  pub is : read_normal s ≡ good (normal_in s)
  pub arcs : r.arcs ≡ length (system_in_file s).arcs
  pub parameters : r.parameters ≡ length (system_in_file s).labels
  pub stored : r.stored ≡ length (stored_in_file s).labels
  pub matrix : r.matrix ≡ (normal_in s).matrix
  pub rights : r.rights ≡ (normal_in s).rights
  pub totals : r.totals ≡ (normal_in s).totals

-- ---- the labels of two files, joined: how many, and their places in each
pub record Joined (a b : List ℕ) (n : ℕ) (left right : List ℕ) : Type 0 where
  pub count : n ≡ length (union (keys_of (system_in_file a)) (keys_of (system_in_file b)))
  pub left_placed : SeatedAt (keys_of (system_in_file a)) (union (keys_of (system_in_file a)) (keys_of (system_in_file b))) left
  pub right_placed : SeatedAt (keys_of (system_in_file b)) (union (keys_of (system_in_file a)) (keys_of (system_in_file b))) right
  pub left_long : n ≤ length left
  pub right_long : n ≤ length right

-- the place among those joined of each label whose sums one of the two files stores
pub record Located (a b : List ℕ) (n : ℕ) (ta tb : List ℕ) : Type 0 where
  pub count : n ≡ length (union (keys_of (system_in_file a)) (keys_of (system_in_file b)))
  pub left_are : ta ≡ seats (union (keys_of (system_in_file a)) (keys_of (system_in_file b))) (keys_of (stored_in_file a))
  pub right_are : tb ≡ seats (union (keys_of (system_in_file a)) (keys_of (system_in_file b))) (keys_of (stored_in_file b))

-- two files whose arcs may be united to m
pub record ArcsFit (a b : List ℕ) (m : ℕ) : Type 0 where
  pub none_shared : share (system_in_file a).arcs (system_in_file b).arcs ≡ false
  pub count : m ≡ length (union (system_in_file a).arcs (system_in_file b).arcs)
  pub few : m ≤ arcs_most

-- ---- the merged file in three parts
unfoldable pub head_bytes : System → List ℕ
head_bytes z = sectioned arc_number_bytes z.arcs (sectioned normal_label_bytes z.labels [])

unfoldable pub middle_bytes : System → List ℕ
middle_bytes z = sectioned sum_bytes z.matrix (sectioned sum_bytes z.rights [])

unfoldable pub last_bytes : System → List ℕ
last_bytes z = sectioned totals_bytes (record { accepted = z.accepted; square = z.square } ∷ []) []
