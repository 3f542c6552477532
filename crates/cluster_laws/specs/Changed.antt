-- Functions with another value at one place.
pub use Rattle.cluster_types.specs.Changed.{changed, at_number, at_key, at_digest, at_stay, at_part, at_pair, at_record}
