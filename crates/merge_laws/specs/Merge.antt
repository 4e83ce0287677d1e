-- Document 01, 'Normal file': "Merging adds sums of like labels, unites labels and arcs, and carries priors over without adding them." All of
-- it is said by labels, each named by its key, so that no place matters. Uniting the headings stands apart from adding a file's sums.
use Rattle.std.specs.Prelude.{List, [], ◌∷◌, map, Bool, not, ℕ, ◌+◌, pos, length, replicate}
use Rattle.num_limits.specs.Capacities.{arcs_most, labels_most}
use Rattle.num_whole.specs.Tests.{less, pick, both, either}
use Rattle.num_whole.specs.Lists.{all}
use Rattle.num_whole.specs.Sums.{plus}
use Rattle.refusal.specs.First.{when, unless, first}
use Rattle.num_packed.specs.Triangle.{tri}
use Rattle.norm_system.specs.System.{System, has}
use Rattle.norm_system.specs.declared.NormalLabel.{NormalLabel}
use Rattle.norm_labels.specs.Labels.{keys_of, label_by_key, value, side, table}
use Rattle.merge_join.specs.Join.{union, share}
use Rattle.merge_join.specs.Alike.{alike}

-- ---- "unites labels and arcs, and carries priors over without adding them"
-- arcs and labels with nothing summed
unfoldable pub zero_system : List ℕ → List NormalLabel → System
zero_system arcs labels =
    record {
      arcs = arcs;
      labels = labels;
      matrix = replicate (tri (length labels)) (pos 0);
      rights = replicate (length labels) (pos 0);
      accepted = 0;
      square = 0;
    }

-- the label of a key with its prior weight and estimate, from the first of the two that has it; 24 sees to it that the other's is no other
unfoldable pub carried : System → System → ℕ → NormalLabel
carried x y k = pick (has k (keys_of x)) (label_by_key x k) (label_by_key y k)

unfoldable pub joined : System → System → System
joined x y = zero_system (union x.arcs y.arcs) (map (carried x y) (union (keys_of x) (keys_of y)))

-- ---- "adds sums of like labels": a system's sums go where another has their labels
unfoldable pub add_into : System → System → System
add_into g x =
    record {
      arcs = g.arcs;
      labels = g.labels;
      matrix = plus g.matrix (table (value x) (keys_of g));
      rights = plus g.rights (map (side x) (keys_of g));
      accepted = g.accepted + x.accepted;
      square = g.square + x.square;
    }

-- one join, and one addition for each
unfoldable pub merged_of : System → System → System
merged_of x y = add_into (add_into (joined x y) x) y

-- ---- refusals, in their order: "21 both files list one arc; 22 more than 16 arcs together; 23 more than 500 parameters together; 24 a
-- common label with unlike prior weight or estimate"
-- a label that both have is alike in both
unfoldable pub agree : System → System → ℕ → Bool
agree x y k = either (not (both (has k (keys_of x)) (has k (keys_of y)))) (alike (label_by_key x k) (label_by_key y k))

-- 0 where nothing refuses
unfoldable pub merge_number : System → System → ℕ
merge_number x y =
    first
    (when 21 (share x.arcs y.arcs)
    ∷ when 22 (less arcs_most (length (union x.arcs y.arcs)))
    ∷ when 23 (less labels_most (length (union (keys_of x) (keys_of y))))
    ∷ unless 24 (all (agree x y) (union (keys_of x) (keys_of y)))
    ∷ [])
