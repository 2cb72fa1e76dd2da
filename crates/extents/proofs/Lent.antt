-- Laws of maps lent and home again, for the crates above: they cite `extents` and the meaning of maps, and nothing between.
pub use Rattle.extents_pair.proofs.Parts.{home}
pub use Rattle.extents_pair.proofs.Pairing.{Told, two-told, lent_map, map_lent, map_space}
