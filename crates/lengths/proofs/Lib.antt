-- The laws of lengths: Long (word by word, and the whole set).
pub mod Long
