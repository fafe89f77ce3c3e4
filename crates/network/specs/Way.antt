-- The way of a message as document 01 words it: "from its node of entry up to the node before its target in ring order". `buffer_fits`
-- says this by a comparison of hops, and `WayIsHops` says that it is the same.
use Rattle.std.specs.Prelude.{ℕ, zero, suc, ◌<◌, ◌≡◌, ◌↔◌, true, cond, List, [], ◌∷◌, map}
use Rattle.numbers.specs.declared.NodeNo.{NodeNo}
use Rattle.numbers.specs.declared.ChannelNo.{ChannelNo}
use Rattle.network.specs.Counting.{count}
use Rattle.network.specs.Network.{Network, same_node, count_of_nodes, count_of_channels, next_on, entry, target}
use Rattle.network.specs.Sound.{buffer_fits}

-- On n nodes: from node p on, one node after the other, up to the one next to which the target stands; no more than so many nodes.
abbrev pub up_to_before : ℕ → NodeNo → ℕ → NodeNo → List NodeNo
up_to_before n target zero p = []
up_to_before n target (suc most) p = p ∷ cond (same_node (next_on n p) target) [] (up_to_before n target most (next_on n p))

-- the nodes on the way from an entry to a target: there are only n nodes
abbrev pub way_of : ℕ → NodeNo → NodeNo → List NodeNo
way_of n entry target = up_to_before n target n entry

-- how many times node p is among these
abbrev pub times_among : List NodeNo → NodeNo → ℕ
times_among ps p = count p.0 (map (λ (q : NodeNo). q.0) ps)

-- where the message of a channel may stand in a buffer, for a node of the ring and a channel whose ends are nodes of the ring
abbrev pub WayIsHops : Type 0
WayIsHops =
    (σ : Network) (p : NodeNo) (k : ChannelNo) → p.0 < count_of_nodes σ → (entry σ k).0 < count_of_nodes σ → (target σ k).0 < count_of_nodes σ →
    (buffer_fits σ p k ≡ true) ↔ ((k.0 < count_of_channels σ) × (0 < times_among (way_of (count_of_nodes σ) (entry σ k) (target σ k)) p))
