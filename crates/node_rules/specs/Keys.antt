-- Whether two keys are the same.
pub use Rattle.cluster_types.specs.ClusterKeys.{same_key}
